pub mod Shown
pub mod Makes
pub mod Emptying
