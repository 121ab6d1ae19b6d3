pub mod Notes
pub mod Remembering
