pub mod Cells
pub mod Refusals
pub mod Seek
pub mod Holes
pub mod Memory
pub mod Zeroing
