pub mod StageLaws
pub mod NumberLaws
pub mod JudgeLaws
