pub mod Conversing
pub mod Finishing
pub mod Replying
