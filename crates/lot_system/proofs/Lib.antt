pub mod Common
pub mod WritingFacts
pub mod ListingFacts
pub mod TimedReportFacts
pub mod TextFacts
pub mod LineFacts
pub mod PlayedFacts
pub mod SeedFacts
pub mod RefusedFacts
mod TableFacts
pub mod Lemmas
