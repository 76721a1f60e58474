pub mod Spelled
pub mod Framed
pub mod Granted
pub mod Trips
