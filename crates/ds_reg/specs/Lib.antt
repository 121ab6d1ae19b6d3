pub mod Registering
pub mod Stages
