pub mod Bounds
pub mod FirstSectors
pub mod MetadataPlaces
pub mod Readings
pub mod SamePlace
