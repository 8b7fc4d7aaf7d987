pub mod Refusals
pub mod Same
pub mod Waits
pub mod Calls
