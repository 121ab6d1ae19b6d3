pub mod FirstRules
pub mod FirstWorlds
pub mod FirstTrees
