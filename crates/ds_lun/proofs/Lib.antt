pub mod KeptSectors
