pub mod Fit
pub mod Pens
pub mod Walks
pub mod Writing
