pub mod Distinct
mod Rows
pub mod UnitLists
