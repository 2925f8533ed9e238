pub mod Best
pub mod Offers
pub mod Reach
