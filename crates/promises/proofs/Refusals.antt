-- Theorems of specs/Refusals, from the bottom up.
pub mod ReadingRefused
