pub mod FirstStates
pub mod Rooms
pub mod FirstConduct
pub mod Reading
pub mod Hosts
pub mod Holding
pub mod Agreeing
pub mod Due
