pub mod Comparing
pub mod Runs
pub mod Singles
pub mod OneReply
