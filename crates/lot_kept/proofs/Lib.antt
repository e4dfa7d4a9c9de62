mod Ranges
pub mod Rewritten
