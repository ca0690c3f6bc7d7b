-- Records packed into blocks and read back; the image and the label behind a write, what stays, what a caller hears of it. For code that writes: laws of its loops, the number
-- of blocks from the lengths alone, the image afterwards as a list of writes.
pub mod Laying
pub mod WritingLaws
pub mod PackedSizes
pub mod PackedRecords
pub mod AlikeLabels
pub mod DataEnds
pub mod StoreLaws
pub mod NeededLaws
