pub mod Align
pub mod Errno
pub mod Ioctl
pub mod Lends
pub mod Syscall
pub mod Temp
