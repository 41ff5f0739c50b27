pub mod Comparing
pub mod Replays
pub mod Rings
