-- What sectors spell.
pub mod BadSectors
pub mod Decoded
pub mod PartsRead
pub mod Readings
pub mod SpellingParts
