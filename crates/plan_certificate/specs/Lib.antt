pub mod Certificate
pub mod Form
pub mod Gathered
pub mod Reading
pub mod Steps
pub mod Truth
