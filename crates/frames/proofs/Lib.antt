pub mod Laying
pub mod Feeding
pub mod Bounds
