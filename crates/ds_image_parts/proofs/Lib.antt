pub mod Journaling
pub mod Ownership
pub mod Spelling
