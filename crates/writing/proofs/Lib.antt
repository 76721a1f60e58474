pub mod Pastes
pub mod Lined
pub mod Writers
pub mod Whole
