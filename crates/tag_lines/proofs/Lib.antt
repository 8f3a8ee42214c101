pub mod LineFacts
pub mod ReadingFacts
pub mod KnownFacts
pub mod NumberFacts
