pub mod RunLaws
pub mod StandLaws
pub mod PenLaws
pub mod BlockLaws
pub mod WordLaws
