-- Lemmas, in the order of their dependence.
pub mod Common
pub mod Lotteries
pub mod Ready
pub mod Weighing
pub mod Together
pub mod Lemmas
