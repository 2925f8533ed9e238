pub mod Economy
pub mod Names
pub mod Systems
pub mod TypedDeck
