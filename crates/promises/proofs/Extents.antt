-- Theorems of specs/Extents, from the bottom up.
pub mod ExtentReads
pub mod DefectsApart
