pub mod Exits
pub mod HostRows
pub mod Opening
pub mod PartRows
pub mod PlayMoves
pub mod PlayRows
pub mod PlaySteps
pub mod Telling
