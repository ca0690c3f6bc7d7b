-- The table by level
pub mod Tables
