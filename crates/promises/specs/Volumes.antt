-- The volume: its judgement both ways, its labels and numbers; what is read of the index cylinder, found and free; extents in range that share no record; the skip
-- of defective cylinders as a walk, and the pairs of them that ERMAP lets pass.
pub mod Judging
pub mod AcceptedLaws
pub mod LabelRules
pub mod VolumeNumbers
pub mod IndexLaws
pub mod IndexReads
pub mod FindingLaws
pub mod FreeLaws
pub mod VolumePromises
pub mod SkipWalk
pub mod PairsPass
