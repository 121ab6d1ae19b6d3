pub mod ChangeWalk
pub mod Known
pub mod Laws
pub mod Limits
pub mod NewBodies
pub mod ObjectWalk
pub mod Wholes
