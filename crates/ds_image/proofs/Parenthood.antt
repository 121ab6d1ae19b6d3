-- Parents of objects, and what is reached by them.
pub mod ListParents
pub mod ReachedObjects
