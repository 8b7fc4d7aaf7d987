pub mod Projection
pub mod Letters
pub mod Cuts
pub mod Counts
pub mod Given
pub mod Theorems
