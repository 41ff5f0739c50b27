pub mod Ending
pub mod Named
pub mod OffList
pub mod Plain
pub mod Plays
pub mod Waiting
pub mod Walks
