mod Uses
pub mod Charges
pub mod Charging
pub mod Booked
pub mod Book
pub mod Waits
pub mod WaitPlays
pub mod Stands
pub mod Walks
pub mod Grants
pub mod Balance
pub mod Groups
pub mod Rest
