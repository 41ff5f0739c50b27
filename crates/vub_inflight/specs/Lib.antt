pub mod Bytes
pub mod Law
pub mod Machine
pub mod Order
pub mod Recover
pub mod State
pub mod Steps
pub mod View
