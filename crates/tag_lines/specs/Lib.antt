pub mod Lines
pub mod Refusals
pub mod Faults
pub mod Readings
pub mod EventList
pub mod Dialects
pub mod ScriptLines
pub use Rattle.tag_model.specs.Event
