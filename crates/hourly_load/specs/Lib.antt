pub mod Hours
pub mod Lines
pub mod Texts
