pub mod RowLaws
pub mod EndLaws
pub mod PlanLaws
