pub mod Sets
pub mod Leaves
pub mod Seams
pub mod Stretches
pub mod Tables
pub mod Filling
pub mod Comparing
