-- Theorems of specs/Volumes, from the bottom up.
pub mod SkipWalk
