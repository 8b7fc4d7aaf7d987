pub mod Lists
pub mod Lines
pub mod Fields
pub mod Parts
