pub mod Turned
pub mod TraceOf
