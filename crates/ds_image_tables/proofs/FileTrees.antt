-- Names of objects, counted.
pub mod CountedNames
