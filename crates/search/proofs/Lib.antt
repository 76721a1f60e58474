pub mod Jumping
