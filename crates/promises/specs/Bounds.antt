-- How large the numbers in an answer can be; which positions of VOL1 a refusal names; and the one returned number of the C boundary, which is exact.
pub mod Sizes
pub mod VersionNamed
pub mod WritingSizes
pub mod PackedLaws
