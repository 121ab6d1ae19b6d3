-- Items that are listed.
pub mod ListedItems
