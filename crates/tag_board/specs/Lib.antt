mod Uses
pub mod AloneSets
pub mod States
pub mod Wakeups
pub mod Parts
pub mod Boards
pub mod Refusals
pub mod Replays
pub mod Looks
pub mod Opening
pub mod Closing
pub mod Resizes
