mod Uses
pub mod PlaceFacts
pub mod ShareFacts
pub mod Scans
