pub mod FourRooms
pub mod Laws
pub mod Readings
pub mod Rooms
