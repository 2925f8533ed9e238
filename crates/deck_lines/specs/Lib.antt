pub mod Words
pub mod LineFault
pub mod Body
pub mod Statements
pub mod Grammar
pub mod Canonical
pub mod Deck
