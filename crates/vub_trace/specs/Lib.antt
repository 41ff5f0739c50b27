pub mod Kinds
pub mod Past
pub mod Words
pub mod Text
pub mod Traces
