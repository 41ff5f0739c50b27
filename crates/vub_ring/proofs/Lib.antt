pub mod Numbers
pub mod Settling
pub mod Takes
pub mod Using
pub mod Words
