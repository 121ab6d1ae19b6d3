pub mod Beginning
pub mod Bodies
pub mod Changed
pub mod ChangedParts
pub mod Entering
pub mod Making
pub mod Puts
pub mod Redos
