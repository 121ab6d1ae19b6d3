-- The trees that parts spell.
pub mod BuiltTrees
pub mod DirNodes
pub mod EntryNames
pub mod NamesApart
pub mod ReadTrees
pub mod RootedTrees
pub mod Standing
pub mod TreeParts
pub mod TreesThatStand
