pub mod Handed
pub mod Slot
