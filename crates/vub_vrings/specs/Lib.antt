pub mod Vrings
