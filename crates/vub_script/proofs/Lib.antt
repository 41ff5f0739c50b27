pub mod LoneMember
pub mod Texts
pub mod Served
