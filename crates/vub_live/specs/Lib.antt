pub mod Lived
pub mod Words
