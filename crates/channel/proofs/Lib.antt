pub mod Letters
pub mod Pairs
pub mod Totals
pub mod Makes
pub mod Places
