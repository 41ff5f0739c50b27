pub mod Calls
pub mod Hosting
pub mod PartsState
pub mod Store
pub mod Worker
