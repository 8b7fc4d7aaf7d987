mod Each
pub mod Rows
