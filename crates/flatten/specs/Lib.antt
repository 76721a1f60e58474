pub mod Runs
pub mod Steps
pub mod Flattening
pub mod Comparing
