-- A number, where there is one
pub mod Numbers
