pub mod Common
pub mod PackedLemmas
pub mod SeedLemmas
pub mod Lemmas
