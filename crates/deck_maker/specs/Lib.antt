pub mod Stream
pub mod TrialDeck
pub mod Order
pub mod Ranges
pub mod Laws
