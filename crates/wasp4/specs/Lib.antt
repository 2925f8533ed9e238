pub mod Going
pub mod Hours
pub mod Oneness
pub mod Out
pub mod Progress
pub mod Script
pub mod Trial
