-- Sectors that fail, and salvage: what remains of the list, in blocks and in an image; plain reading then; nothing lost, nothing else.
pub mod SalvageLaws
pub mod SalvageViews
pub mod NoneLost
pub mod Failing
