-- Cached values, in reading order.
pub mod Counts
pub mod Caches
pub mod Marking
pub mod Sources
pub mod Touched
pub mod Valued
pub mod Changing
