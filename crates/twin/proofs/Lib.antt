pub mod Shuffles
pub mod Links
pub mod Twins
