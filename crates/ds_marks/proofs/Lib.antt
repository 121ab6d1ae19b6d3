pub mod Deciding
pub mod HeaderIn
pub mod Headers
pub mod Pieces
pub mod Readings
pub mod SlotIn
pub mod Slots
