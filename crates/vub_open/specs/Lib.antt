pub mod Asked
pub mod Hosts
pub mod Opened
pub mod Refused
