mod Uses
pub mod Crossing
