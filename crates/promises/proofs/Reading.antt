-- Theorems of specs/Reading, from the bottom up.
pub mod FollowingLaws
pub mod WholeLaws
pub mod AnyPlace
pub mod GoingOn
pub mod Runs
