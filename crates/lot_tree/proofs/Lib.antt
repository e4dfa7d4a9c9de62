pub mod Common
pub mod Digits
pub mod Sums
pub mod Levels
pub mod Descent
pub mod Visits
pub mod Lemmas
