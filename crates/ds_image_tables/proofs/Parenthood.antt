-- Parents of objects, and walks along them.
pub mod ReachedParents
pub mod TreeParents
pub mod WalkingParents
