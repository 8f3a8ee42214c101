-- The names that several definitions use, of the library and the crates below.
pub use Rattle.std.specs.Int.{bit_at}
pub use Rattle.std.specs.Prelude.{[], bit_or, Bool, cond, count_ones, IsTrue, length, List, nat_eq, ℕ}
pub use Rattle.tag_layout.specs.Layout.{Layout, place_of, word_of}
pub use Rattle.tag_core.specs.Berths.{IsListed, IsListedAs, IsTold, same_waiter, told_as}
pub use Rattle.tag_core.specs.Callers.{record_of, SameMap}
pub use Rattle.tag_core.specs.Histories.{cells_of, History, IsLawful, steps_by}
pub use Rattle.tag_core.specs.Steps.{without, Words}
pub use Rattle.tag_core.specs.Waits.{HasTaken, newly_told, waits_as}
pub use Rattle.tag_core.specs.declared.bell_step.BellStep.TheVariants.{Enlist, Enter, GetUp, Leave, LookAll, LookAt, TakeTurn, Tell}
pub use Rattle.tag_core.specs.declared.berth.Berth.{Berth}
pub use Rattle.tag_core.specs.declared.berth.Berth.TheVariants.{Listed, Told, Up}
pub use Rattle.tag_core.specs.declared.berth.Waiter.{Waiter}
pub use Rattle.tag_core.specs.declared.berth.Waiter.TheVariants.{Listener, Sleeper}
pub use Rattle.tag_core.specs.declared.caller.Caller.{Caller}
pub use Rattle.tag_core.specs.declared.shape.Shape.{Shape}
pub use Rattle.tag_core.specs.declared.step.Step.{Step}
pub use Rattle.tag_core.specs.declared.step.Step.TheVariants.{Bell, Post, ReadNote, Take, Word}
