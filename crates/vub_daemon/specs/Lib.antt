pub mod Causes
pub mod Daemon
pub mod Duties
pub mod Reports
pub mod Verdicts
