pub mod Fields
pub mod NodeKinds
