mod EntryLists
mod GeometryBounds
mod ObjectLists
mod Blocks
mod Renaming
mod Granted
mod Pages
mod FreeBlocks
pub mod FreshTree
mod Changed
mod MakeKeeps
mod RemoveKeeps
mod RenameInsideKeeps
mod RenameAcrossKeeps
mod ResizeKeeps
pub mod StepKeeps
pub mod Accepted
pub mod PlainPasses
