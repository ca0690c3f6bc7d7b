-- The exits of the code
pub mod WordLaws
-- What is seen, and what stands there
pub mod LookLaws
