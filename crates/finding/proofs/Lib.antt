pub mod FindLaws
pub mod AskLaws
