mod Uses
pub mod Counting
pub mod BookKeeps
pub mod Ending
pub mod GroupSteps
pub mod Standing
pub mod AllGroups
pub mod GroupKeeps
pub mod Lengths
pub mod Granting
pub mod Walking
pub mod GroupsEnding
pub mod Crossing
pub mod Waiters
pub mod Leaving
pub mod Rest
