pub mod Capacity
pub mod Code
pub mod System
