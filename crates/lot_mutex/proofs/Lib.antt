-- Lemmas, in the order of their dependence.
pub mod Common
pub mod Owners
pub mod Passing
pub mod Worths
pub mod Waiting
pub mod HandedOver
pub mod PassedOn
pub mod Lemmas
