pub mod RoomLaws
pub mod Asking
