pub mod Blocks
pub mod Execution
