pub mod Header
pub mod HeaderIn
pub mod HeaderParts
pub mod Pieces
pub mod Slot
pub mod SlotIn
pub mod SlotParts
