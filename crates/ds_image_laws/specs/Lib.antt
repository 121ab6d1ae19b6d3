pub mod Calls
pub mod HostWrites
pub mod ImageSteps
pub mod Kept
pub mod Laws
pub mod Owners
pub mod Shown
