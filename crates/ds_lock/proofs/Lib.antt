pub mod Shown
pub mod Order
pub mod Going
pub mod Passes
pub mod Answering
