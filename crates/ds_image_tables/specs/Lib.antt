pub mod KnownUsers
pub mod NameCounts
pub mod Owned
pub mod Owns
pub mod ParentWalks
pub mod Parents
pub mod Users
