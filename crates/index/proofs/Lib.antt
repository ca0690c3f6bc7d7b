pub mod RefusalLaws
pub mod SlotLaws
pub mod ClashLaws
pub mod ExtentLaws
pub mod NameLaws
