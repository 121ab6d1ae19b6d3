pub mod Bits
pub mod BitsParts
