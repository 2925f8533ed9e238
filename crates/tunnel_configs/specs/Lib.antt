pub mod Listed
pub mod Neighbours
