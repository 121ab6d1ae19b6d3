pub mod Decoding
pub mod Device
pub mod Exchanges
pub mod Geometry
pub mod Identity
pub mod Memory
pub mod Names
pub mod Outside
