pub mod JoinLaws
pub mod SumLaws
