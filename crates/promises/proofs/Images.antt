-- Theorems of specs/Images, from the bottom up.
pub mod Unjudged
pub mod Alike
pub mod ByteSectors
