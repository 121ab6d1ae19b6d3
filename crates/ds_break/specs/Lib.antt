pub mod Breaking
pub mod Runs
