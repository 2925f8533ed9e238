pub mod Behind
pub mod Draws
pub mod Forms
pub mod Growing
mod WorkedRows
pub mod Reading
pub mod NoFault
pub mod YearRows
pub mod Trials
