pub mod Ceilings
pub mod Neighbours
pub mod ShapePoints
pub mod FillSteps
mod Rows
