-- Lemmas, in the order of their dependence.
pub mod Common
pub mod TwoChanges
pub mod Running
pub mod Together
pub mod Applying
pub mod Adding
pub mod Moving
pub mod Leads
pub mod Ways
pub mod Last
pub mod Ending
pub mod Lemmas
