pub mod Sums
pub mod Visits
