pub mod Texts
pub mod Loads
pub mod Laws
