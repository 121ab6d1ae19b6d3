pub mod Index
pub mod IndexParts
