-- Laws of the text of list-bank.
pub mod Texts
pub mod Marked
