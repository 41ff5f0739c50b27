pub mod Attending
pub mod Links
pub mod Naming
