pub mod Halves
pub mod Wires
