pub mod PlanLaws
pub mod WriteLaws
