pub mod Apart
pub mod Destinations
pub mod Shape
pub mod Formed
pub mod Found
pub mod Outcomes
