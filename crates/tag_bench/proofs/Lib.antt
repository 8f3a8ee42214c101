mod Uses
pub mod Bits
pub mod Cached
pub mod Gained
pub mod Shifts
