pub mod Asking
pub mod Rereading
