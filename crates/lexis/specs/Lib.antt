pub mod Spots
pub mod Refusals
pub mod Classes
pub mod Steps
pub mod Lexing
pub mod Readers
