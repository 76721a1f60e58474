pub mod Spelling
pub mod Columns
pub mod Backs
pub mod Naming
pub mod Peels
