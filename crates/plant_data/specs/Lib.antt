pub mod Accepted
pub mod Configs
pub mod Rows
pub mod Shapes
pub mod Tunnels
pub mod Units
