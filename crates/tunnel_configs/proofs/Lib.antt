mod Boxes
mod Counting
mod Gathered
mod Margins
mod Risings
pub mod Sizes
