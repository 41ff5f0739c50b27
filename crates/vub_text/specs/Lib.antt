pub mod Words
pub mod Answers
pub mod Calls
pub mod Lines
pub mod Text
