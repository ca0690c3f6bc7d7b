-- Theorems of specs/Making, from the bottom up.
pub mod SameWrites
pub mod SlotEdits
pub mod OthersStay
pub mod SlotSplices
pub mod Deletions
pub mod Creations
pub mod EmptyFiles
pub mod MadeExactly
