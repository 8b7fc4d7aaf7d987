pub mod Meant
pub mod Scans
pub mod Charts
