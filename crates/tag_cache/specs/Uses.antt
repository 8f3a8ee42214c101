-- The names that several definitions use, of the library and the crates below.
pub use Rattle.std.specs.Prelude.{[], All, AllPairs, Bool, Contains, count_ones, Err, false, IfErr, IfNone, IfOk, IfSome, IsOkAnd, IsTrue, length, List, max, None, Ok, OnErr, OnOk, Option, Result, Some, true, ℕ, ⊤}
pub use mathlib.Core.Option.{some}
pub use Rattle.refusals.specs.Refusals.{Checks, RefusesBy}
pub use Rattle.tag_core.specs.declared.berth.Waiter.{Waiter}
pub use Rattle.tag_bell.specs.Calls.{nobody, OwesNoMore}
pub use Rattle.tag_bell.specs.Sleeping.{told_by}
pub use Rattle.tag_bell.specs.declared.sleeping.Woken.{Woken}
pub use Rattle.tag_bell.specs.declared.told.Told.{Told}
pub use Rattle.tag_bell.specs.declared.waiting.Turn.{Turn}
pub use Rattle.tag_search.specs.declared.found.Found.{Found}
pub use Rattle.tag_pool.specs.Gets.{IsAnswer, IsInRun, IsTagIn, left_free, LooksAfter}
pub use Rattle.tag_pool.specs.Hands.{back_of, caller_of, Changes, HasRoom, hint_of, reserved_of, split_of, total_of}
pub use Rattle.tag_pool.specs.Masks.{tags_in}
pub use Rattle.tag_pool.specs.Refusals.{CountsBatch}
pub use Rattle.tag_pool.specs.Sets.{kind_of}
pub use Rattle.tag_pool.specs.declared.fault.TagFault.{TagFault}
pub use Rattle.tag_pool.specs.declared.fault.TagFault.TheVariants.{BadCount, NoSuchTag, NotHeld, Spent}
pub use Rattle.tag_pool.specs.declared.hand.Hand.{Hand}
pub use Rattle.tag_pool.specs.declared.kind.Kind.{Kind}
pub use Rattle.tag_pool.specs.declared.kind.Kind.TheVariants.{Ordinary, Reserved}
pub use Rattle.tag_pool.specs.declared.pool.Pool.{Pool}
