pub mod AddressLaws
pub mod RefusalLaws
