-- Rules as numbers
pub mod Parts
-- What the rows above have read
pub mod Held
