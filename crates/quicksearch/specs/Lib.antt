pub mod Exceeding
pub mod Agendas
pub mod Remembered
