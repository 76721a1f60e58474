pub mod Scans
pub mod Asking
pub mod Changes
pub mod Sending
