pub mod RoomParts
pub mod SubBlock
