pub mod Body
pub mod BodyParts
