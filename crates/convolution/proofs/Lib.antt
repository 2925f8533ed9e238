mod Estimates
pub mod Gaps
pub mod Means
pub mod RoundingSteps
mod Rows
