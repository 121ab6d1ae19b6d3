pub mod Indexes
pub mod Readings
