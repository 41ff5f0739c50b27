pub mod Alone
pub mod Draining
pub mod EntriesLeft
pub mod Orderly
pub mod Ranges
pub mod Stretches
pub mod Touched
pub mod Worked
