pub mod NameOrder
pub mod Writes
pub mod Fits
pub mod NameLaws
pub mod Places
pub mod TreeFiles
pub mod TreeNames
