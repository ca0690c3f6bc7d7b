pub mod AheadLaws
pub mod DeskLaws
