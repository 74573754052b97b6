pub mod Listing
pub mod Records
pub mod Marked
