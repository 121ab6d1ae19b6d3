-- What is pending in journals, and sectors that it is laid over.
pub mod LaidOver
pub mod Laying
pub mod OneLogical
pub mod Replacing
