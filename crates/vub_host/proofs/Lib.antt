pub mod All
pub mod Waiting
pub mod Writing
