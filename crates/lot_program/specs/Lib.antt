pub mod Packed
pub mod Parts
pub mod Programs
