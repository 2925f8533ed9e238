pub mod LoadingOrder
pub mod Maintenance
