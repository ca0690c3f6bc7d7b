-- The parts are the rules
pub mod PartLaws
-- The exits of the functions that read a field
pub mod ExitLaws
