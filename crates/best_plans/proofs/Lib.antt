mod FirstPlans
pub mod OneRanking
mod Putting
mod Reaching
mod Selecting
