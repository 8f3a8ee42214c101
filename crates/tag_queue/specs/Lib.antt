mod Uses
pub mod Bell
pub mod Hands
pub mod Looks
pub mod Waits
pub mod Blocking
pub mod Refusals
pub mod Clears
pub mod Faults
pub mod Parts
pub mod Opening
pub mod Gathering
pub mod Resizing
