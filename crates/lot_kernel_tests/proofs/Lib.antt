pub mod Common
pub mod BothLemmas
pub mod SumLemmas
pub mod Lemmas
