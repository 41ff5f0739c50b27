pub mod Events
pub mod Faults
pub mod Pending
pub mod Play
pub mod State
