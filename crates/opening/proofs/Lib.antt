pub mod OpenLaws
pub mod OpenedLaws
