-- Theorems of specs/Bounds, from the bottom up.
pub mod ReadingSizes
pub mod WritingSizes
pub mod MadeSizes
pub mod PackedLaws
