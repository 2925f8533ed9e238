pub mod BookSteps
pub mod CellSteps
pub mod CodeParts
pub mod Literals
pub mod Radix
mod Rows
pub mod ThermalSteps
pub mod WaterSteps
