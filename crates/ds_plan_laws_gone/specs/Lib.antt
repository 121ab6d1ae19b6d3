pub mod Leaving
pub mod MapWrites
pub mod Moving
pub mod Replaced
