pub mod Pasting
pub mod Texts
pub mod Fields
pub mod Adding
