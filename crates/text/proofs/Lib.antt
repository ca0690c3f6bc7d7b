pub mod LaidLaws
pub mod Digits
