pub mod Rules
pub mod Checks
pub mod Verdict
pub mod Results
