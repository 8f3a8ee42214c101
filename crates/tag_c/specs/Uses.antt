-- The names that several definitions use, of the library and the crates below.
pub use Rattle.std.specs.Arc.{arc_value}
pub use Rattle.std.specs.Prelude.{[], All, Bool, count_ones, Err, false, IfErr, IfNone, IfOk, IfSome, IsSome, IsTrue, length, List, max, min, nat_eq, negsuc, None, Ok, OnErr, OnOk, Option, pos, Result, reverse, Some, suc, true, zero, ℕ, ℤ, ⊤}
pub use Rattle.refusals.specs.Refusals.{Checks, FailsFirst, PassesAll, RefusesBy}
pub use Rattle.tag_layout.specs.Layout.{HasShift, words}
pub use Rattle.tag_layout.specs.declared.layout.TheConstants.{MAX_DEPTH}
pub use Rattle.tag_search.specs.declared.found.Found.{Found}
pub use Rattle.tag_model.specs.declared.totals.Totals.{Totals}
pub use Rattle.tag_pool.specs.Hands.{Changes, hint_of, IsHandOf, layout_of, number_of, reserved_of, total_of}
pub use Rattle.tag_pool.specs.Opening.{IsOpen}
pub use Rattle.tag_pool.specs.Sets.{kind_of}
pub use Rattle.tag_pool.specs.Resizing.{HasRange}
pub use Rattle.tag_pool.specs.Refusals.{open_checks}
pub use Rattle.tag_pool.specs.declared.fault.OpenFault.{OpenFault}
pub use Rattle.tag_pool.specs.declared.fault.OpenFault.TheVariants.{CallerCount, LifeTooLong, Memory, ReservedTooLarge, ShiftTooLarge, TotalTooLarge, Memory as WantOfMemory}
pub use Rattle.tag_pool.specs.declared.fault.TagFault.{TagFault}
pub use Rattle.tag_pool.specs.declared.fault.TagFault.TheVariants.{BadCount, NoReserved, NoSuchTag, NotHeld, NotPosted, Spent, TooShallow}
pub use Rattle.tag_pool.specs.declared.hand.Hand.{Hand}
pub use Rattle.tag_pool.specs.declared.kind.Kind.{Kind, Kind as Set}
pub use Rattle.tag_pool.specs.declared.kind.Kind.TheVariants.{Ordinary, Reserved}
pub use Rattle.tag_pool.specs.declared.options.Options.{Options}
pub use Rattle.tag_pool.specs.declared.pool.Pool.{Pool}
pub use Rattle.tag_cache.specs.Caches.{hand_of, keeping_of, KeepsNone, most_of}
pub use Rattle.tag_cache.specs.Same.{SameTags}
