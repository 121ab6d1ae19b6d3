pub mod Locking
pub mod Stages
