pub mod Made
pub mod Ends
pub mod Lists
pub mod Verdicts
pub mod Judged
pub mod Unique
pub mod Small
