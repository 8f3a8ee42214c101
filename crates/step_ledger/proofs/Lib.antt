mod Uses
pub mod Seats
pub mod Fresh
pub mod Numbers
pub mod Moves
pub mod Whole
pub mod Members
pub mod Totals
pub mod Turned
pub mod Gathers
pub mod Crossing
