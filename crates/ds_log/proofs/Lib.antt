pub mod Pushes
pub mod Growing
pub mod Legal
pub mod Whole
pub mod Following
