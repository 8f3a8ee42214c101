mod Uses
pub mod Waiting
pub mod Looks
pub mod Safety
pub mod Order
pub mod Rounds
pub mod Callers
pub mod Calls
pub mod Entering
pub mod Coming
pub mod Telling
pub mod Lines
pub mod Sleeping
