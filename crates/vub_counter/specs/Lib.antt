pub mod CounterCalls
pub mod Flags
pub mod Messages
pub mod Timer
