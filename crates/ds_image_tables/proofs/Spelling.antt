-- Where items are.
pub mod Places
