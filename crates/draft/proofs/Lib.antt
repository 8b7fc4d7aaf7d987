pub mod Tiling
pub mod Padding
pub mod Repeat
pub mod Held
mod Counted
mod Ending
