pub mod Cursors
pub mod Surveys
