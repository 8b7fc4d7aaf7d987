pub mod Turns
pub mod Readings
