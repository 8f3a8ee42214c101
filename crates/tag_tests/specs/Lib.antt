pub mod Owning
pub mod Shared
