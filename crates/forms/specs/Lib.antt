pub mod Drafts
pub mod Reading
pub mod Writes
pub mod Theorems
