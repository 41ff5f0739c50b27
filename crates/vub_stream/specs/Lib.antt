pub mod Told
pub mod SourceInMemory
pub mod SinkInMemory
pub mod Whole
