pub mod Looks
pub mod Places
mod Fills
