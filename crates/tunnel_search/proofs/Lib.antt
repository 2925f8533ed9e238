pub mod MovedTunnels
mod WorkedRows
mod Years
