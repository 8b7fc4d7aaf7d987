pub mod Trays
