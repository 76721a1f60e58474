pub mod Storing
pub mod Laws
