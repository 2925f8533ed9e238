pub mod Curves
pub mod Discounts
