pub mod Areas
pub mod Factors
pub mod Floors
pub mod Lists
mod Rows
