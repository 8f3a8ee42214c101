pub mod Views
pub mod Records
pub mod Gather
pub mod History
pub mod Ledger
