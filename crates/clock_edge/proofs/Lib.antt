pub mod EdgeLaws
pub mod ShiftLaws
