pub mod Subcommands
pub mod CommandLine
pub mod Options
pub mod Status
pub mod Ends
