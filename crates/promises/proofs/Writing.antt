-- Theorems of specs/Writing, from the bottom up.
pub mod Storing
pub mod SettingLabel
pub mod AcceptedWrite
pub mod WrittenImage
pub mod WrittenLabel
pub mod AcceptedAgain
pub mod StoredBlocks
pub mod ReadBack
pub mod OtherFiles
pub mod WritingPromises
pub mod WrittenHeard
pub mod WriteEnds
pub mod NeededLaws
pub mod SectorWrites
