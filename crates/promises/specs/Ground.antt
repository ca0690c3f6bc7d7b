-- Tests, lists, bytes, digits.
pub mod Basics
pub mod Lists
pub mod Splices
pub mod Digits
