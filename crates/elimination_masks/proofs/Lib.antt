-- Laws of masks: what each turn of a loop adds, and that masks say what the rows say.
pub mod Turns
pub mod MaskLaws
pub mod ColumnLaws
