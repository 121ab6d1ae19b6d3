pub mod Changes
pub mod Holding
pub mod Laws
pub mod Refusals
pub mod Targets
pub mod Walk
