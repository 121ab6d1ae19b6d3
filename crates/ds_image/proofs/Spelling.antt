-- What sectors spell, as far as the parts agree: their sizes, and what their descriptors say.
pub mod ObjectSound
pub mod Sizes
pub mod SoundParts
