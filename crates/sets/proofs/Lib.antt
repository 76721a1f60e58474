pub mod Ranking
pub mod Sorting
pub mod Squeezing
pub mod Listing
pub mod Loops
