pub mod InputFacts
pub mod ReportFacts
