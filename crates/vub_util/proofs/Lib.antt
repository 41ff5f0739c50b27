mod Aligned
mod Unknown
