pub mod Building
pub mod Choosing
pub mod Entering
pub mod Reading
pub mod Ending
