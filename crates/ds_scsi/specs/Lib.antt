pub mod CommandBlocks
pub mod Forms
pub mod SenseData
