pub mod Levels
mod Rows
pub mod Slides
