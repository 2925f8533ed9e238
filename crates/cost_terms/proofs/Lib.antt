pub mod Additivity
pub mod Amounts
mod Apart
pub mod Columns
pub mod Detours
pub mod FactorBounds
mod Rows
pub mod Salvage
pub mod Steps
pub mod TableSteps
