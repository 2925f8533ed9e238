mod Best
pub mod Forward
mod Least
pub mod OneSolution
pub mod Orders
pub mod SieveBits
pub mod StartSteps
pub mod Ways
