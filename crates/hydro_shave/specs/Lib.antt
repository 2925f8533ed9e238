pub mod Hydro
