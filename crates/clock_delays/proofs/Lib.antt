-- Laws of the tables of delays.
pub mod Entered
pub mod Placed
pub mod Read
pub mod Waiting
