-- A condition more than a label's rules
pub mod Added
