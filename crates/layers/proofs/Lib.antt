pub mod Scans
pub mod Meeting
pub mod Renames
pub mod Windows
