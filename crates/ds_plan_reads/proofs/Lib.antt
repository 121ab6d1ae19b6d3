pub mod Laws
mod BlockWalk
mod Doing
mod KeyWalk
mod ReplyWalk
