mod Uses
pub mod Counting
pub mod Halves
pub mod Keeping
pub mod Indexes
pub mod LogWords
pub mod LogFacts
pub mod QueueMoves
pub mod Completing
pub mod Served
pub mod Parting
pub mod Turns
pub mod Joining
pub mod Submitted
pub mod Crossing
pub mod Blaming
pub mod TimedFacts
pub mod TimedWords
