pub mod Pairs
pub mod Meanings
