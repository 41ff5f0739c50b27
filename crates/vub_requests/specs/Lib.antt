pub mod Handling
pub mod OffList
