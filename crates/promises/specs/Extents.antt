-- A file's extent: its addresses, what is read of them, its full blocks; no sector of it is on a defective cylinder, and so a write changes none of those.
pub mod ExtentAddresses
pub mod ExtentWhole
pub mod FullBlocks
