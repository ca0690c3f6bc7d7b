pub mod Whole
pub mod Extents
pub mod Names
