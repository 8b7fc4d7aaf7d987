pub mod Gives
pub mod Sounds
pub mod Pings
