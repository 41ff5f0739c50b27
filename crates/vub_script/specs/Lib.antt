pub mod Bitmaps
pub mod Objects
pub mod Disks
pub mod Directory
pub mod Draft
pub mod Script
