pub mod CostFacts
pub mod Energies
pub mod GroupFacts
pub mod Kept
pub mod LoadFacts
pub mod PlantFacts
pub mod Sound
pub mod SystemFacts
pub mod TunnelFacts
mod Worked
pub mod YearOf
