pub mod Codes
pub mod Frames
pub mod Lines
pub mod Halves
pub mod Machine
pub mod Laws
