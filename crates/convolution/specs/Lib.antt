pub mod CellList
pub mod EquivalentLoad
pub mod ExactLoad
