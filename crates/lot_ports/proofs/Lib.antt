-- Lemmas, in the order of their dependence.
pub mod Common
pub mod Callers
pub mod Serving
pub mod Releasing
pub mod Lemmas
