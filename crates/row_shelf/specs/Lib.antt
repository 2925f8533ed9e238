pub mod Adds
pub mod Asked
pub mod Demands
pub mod Rooms
pub mod Shelf
pub mod Tables
