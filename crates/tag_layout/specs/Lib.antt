pub mod Bits
pub mod Layout
