pub mod Cut
pub mod Streams
pub mod Listed
