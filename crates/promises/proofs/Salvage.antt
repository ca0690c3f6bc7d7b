-- Theorems of specs/Salvage, from the bottom up.
pub mod FailedLaws
pub mod Failable
pub mod SalvageImage
pub mod PlainFailed
pub mod SalvagedHeard
