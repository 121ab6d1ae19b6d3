pub mod Showing
pub mod Going
pub mod Taking
pub mod Remaining
