pub mod Limits
pub mod Ping
pub mod Theorems
