pub mod Firsts
pub mod Forms
pub mod Peaks
mod Worked
pub mod Searches
pub mod Single
pub mod Sizes
