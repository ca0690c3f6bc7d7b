pub mod FreeLaws
pub mod PassLaws
