pub mod ReadingFacts
pub mod WritingFacts
