pub mod Reference
pub mod Served
