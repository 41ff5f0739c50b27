pub mod Booking
pub mod Matching
pub mod Replaying
