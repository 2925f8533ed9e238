pub mod StackSteps
pub mod BlockParts
pub mod BlockSteps
pub mod CostSteps
pub mod WaterSteps
pub mod Fleets
pub mod PieceSteps
pub mod RowSteps
pub mod GenerationSteps
pub mod TapeSteps
pub mod CountSteps
pub mod Rooms
pub mod Layings
pub mod TurnEnergies
mod WorkedRows
