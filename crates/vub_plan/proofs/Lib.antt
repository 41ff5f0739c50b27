pub mod Asked
pub mod Exits
pub mod Firsts
pub mod MaskBits
pub mod Parts
pub mod Queues
