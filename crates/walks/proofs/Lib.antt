pub mod Scanning
pub mod Stepping
pub mod Rising
pub mod Passing
