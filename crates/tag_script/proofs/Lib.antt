mod Uses
pub mod TextFacts
pub mod DumpFacts
pub mod ClearingFacts
pub mod CountFacts
pub mod RunFacts
pub mod CheckFacts
