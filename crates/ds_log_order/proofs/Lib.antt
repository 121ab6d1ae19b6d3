pub mod Advancing
pub mod Waiting
pub mod Ending
pub mod Turns
pub mod Telling
pub mod KeepingUp
pub mod Executing
