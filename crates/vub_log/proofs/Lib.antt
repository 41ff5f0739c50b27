pub mod Holding
pub mod PlainBytes
pub mod Seating
pub mod Steps
pub mod Words
