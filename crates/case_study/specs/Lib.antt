pub mod Case
pub mod Inner
pub mod Keys
pub mod Listings
pub mod Oneness
pub mod Studies
