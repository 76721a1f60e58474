pub mod Jumping
pub mod Board
pub mod Laws
