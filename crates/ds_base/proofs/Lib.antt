mod NameTests
mod Reading
pub mod DeviceLaws
pub mod NameLaws
