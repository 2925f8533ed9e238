pub mod Counting
pub mod Points
mod Rows
