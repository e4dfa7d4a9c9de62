pub mod Common
pub mod GivenSeeds
pub mod Statuses
pub mod Lemmas
