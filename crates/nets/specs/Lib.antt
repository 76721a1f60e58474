pub mod Gathering
pub mod Shape
pub mod Resolving
pub mod Meant
pub mod Loading
