pub mod Fronts
pub mod KindCodes
pub mod Little
pub mod Readings
pub mod SameFields
pub mod Written
