-- Volumes as they are formatted.
pub mod FormattedUpTo
pub mod FreshLists
pub mod FreshParts
pub mod FreshVolume
pub mod FormattedInFront
