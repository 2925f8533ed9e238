pub mod Chosen
pub mod CostToCome
pub mod Plans
pub mod Sieve
pub mod Starts
pub mod Steps
pub mod Ways
