pub mod Digits
pub mod Trees
pub mod Refusals
pub mod HexBytes
