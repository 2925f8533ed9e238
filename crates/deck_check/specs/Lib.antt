pub mod DeckFault
pub mod FaultTable
pub mod Forms
pub mod Order
pub mod Readings
