pub mod Spans
pub mod Noted
pub mod Steps
pub mod Going
pub mod Laws
