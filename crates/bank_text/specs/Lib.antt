pub mod BankText
pub mod Marked
