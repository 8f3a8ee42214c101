-- The names that several definitions use, of the library and the crates below.
pub use Rattle.std.specs.Prelude.{[], All, AllPairs, count_by, Err, IfSome, IsSome, length, List, map, min, None, Option, Result, slice_index, Some, suc, zero, ℕ}
pub use Rattle.std.specs.Prelude.{is_some}
pub use mathlib.Core.Option.{some}
pub use lib.ListN.{get_elem?}
pub use Rattle.refusals.specs.Refusals.{Checks}
pub use Rattle.tag_pool.specs.Gets.{Gets, left_free}
pub use Rattle.tag_pool.specs.Hands.{layout_of}
pub use Rattle.tag_pool.specs.declared.hand.Hand.{Hand}
pub use Rattle.tag_pool.specs.declared.kind.Kind.{Kind}
pub use Rattle.tag_pool.specs.declared.kind.Kind.TheVariants.{Ordinary, Reserved}
pub use Rattle.tag_pool.specs.declared.pool.Pool.{Pool}
pub use Rattle.wake_book.specs.Groups.{announced_beside, announced_steps, GrantsUnrung, RingsNobody, RingsOnce, sighted_beside, sighted_steps, StandsAsBefore, wait_index_of}
pub use Rattle.wake_book.specs.Waits.{active_at}
pub use Rattle.wake_book.specs.Walks.{IsLeave, IsSleep, IsWalk, walk_steps}
pub use Rattle.wake_book.specs.declared.book.Teller.{Teller}
pub use Rattle.wake_book.specs.declared.groups.Waiter.{Waiter}
pub use Rattle.wake_book.specs.declared.sighting.Sighting.{Sighting}
pub use Rattle.wake_book.specs.declared.sleeping.Announcement.{Announcement}
pub use Rattle.wake_book.specs.declared.steps.BookStep.{BookStep}
pub use Rattle.wake_book.specs.declared.steps.GroupStep.{GroupStep}
pub use Rattle.wake_book.specs.declared.steps.GroupStep.TheVariants.{Enter, Look, Raise}
pub use Rattle.wake_book.specs.declared.rings.Rung.TheVariants.{Nudged}
