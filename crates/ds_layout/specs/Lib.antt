pub mod Metadata
pub mod Places
pub mod Regions
pub mod Volume
pub mod VolumeParts
