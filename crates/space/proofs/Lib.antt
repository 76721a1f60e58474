pub mod Tables
pub mod Looked
