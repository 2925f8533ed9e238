pub mod AddUp
pub mod BlockLists
pub mod FirstBest
pub mod InOrder
pub mod SameBlock
pub mod PlaceSteps
mod Rows
pub mod Written
pub mod TurnSteps
pub mod PeakBlocks
pub mod OrderLaws
