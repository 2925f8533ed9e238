pub mod Behind
pub mod Kept
pub mod TailView
pub mod Turns
