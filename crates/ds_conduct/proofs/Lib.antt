pub mod Spelt
pub mod Places
pub mod Rests
pub mod KindsOf
