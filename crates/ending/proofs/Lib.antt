pub mod EndLaws
pub mod EndSizes
