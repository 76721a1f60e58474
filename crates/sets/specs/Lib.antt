pub mod Members
pub mod Orders
pub mod Sets
pub mod Fields
pub mod Laws
