pub mod Common
pub mod GoesOn
pub mod Handles
pub mod Plain
pub mod Runs
pub mod Shared
pub mod Lemmas
