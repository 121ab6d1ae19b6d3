-- Who owns what: items that are listed and counted.
pub mod ItemCounts
pub mod Listed
