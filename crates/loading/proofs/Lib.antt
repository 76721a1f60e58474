pub mod Lines
pub mod Going
pub mod Building
