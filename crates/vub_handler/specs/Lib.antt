pub mod Acting
pub mod Exits
pub mod Opening
pub mod Player
pub mod Playing
