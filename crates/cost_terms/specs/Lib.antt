pub mod Cost
pub mod CostData
pub mod Factors
pub mod StepTable
pub mod Table
pub mod Totals
