pub mod StandLaws
pub mod TurnLaws
pub mod WalkLaws
