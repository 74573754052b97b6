-- Laws of a list through the clocked form.
pub mod ListLaws
