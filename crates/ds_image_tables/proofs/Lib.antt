pub mod FileTrees
pub mod Ownership
pub mod Parenthood
pub mod Spelling
