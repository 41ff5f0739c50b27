pub mod Chunks
pub mod Splices
pub mod Refusals
pub mod Mediums
pub mod Erasing
