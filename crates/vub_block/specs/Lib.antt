pub mod Disk
pub mod Medium
pub mod Request
pub mod Answer
pub mod Law
