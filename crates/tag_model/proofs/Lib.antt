mod Uses
pub mod RunFacts
pub mod MaskFacts
pub mod BalanceFacts
pub mod KeptFacts
pub mod HoldingFacts
pub mod EntryFacts
pub mod HistoryFacts
