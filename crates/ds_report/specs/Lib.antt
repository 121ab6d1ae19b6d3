pub mod Answers
pub mod Hosts
pub mod Slots
pub mod Listing
pub mod Report
pub mod Turns
