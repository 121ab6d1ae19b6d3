pub mod Commands
pub mod Outcomes
pub mod Edges
pub mod Images
pub mod Causes
pub mod Promise
pub mod Runs
