pub mod Bytewise
pub mod FieldSteps
pub mod Ranges
pub mod InForms
pub mod LineForms
pub mod EqualHeads
pub mod Placed
pub mod Texts
pub mod ReadBack
pub mod ReadLine
mod Rows
