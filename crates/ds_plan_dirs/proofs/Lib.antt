mod NamesInOrder
mod PageSteps
mod PagesMade
pub mod Laws
pub mod Lists
pub mod Lookups
