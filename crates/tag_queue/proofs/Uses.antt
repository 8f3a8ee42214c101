-- The names that several proofs use, of the library, the crates below and the definitions here.
pub use Rattle.std.proofs.Common.{[], ap, arith, Err, false, inl, inr, length, List, map, min, None, Ok, OnErr, Option, refl, Result, rules, slice_index, Some, subst, suc, sym, true, zero, ℕ, ⊎_elim, ◌∙◌}
pub use Rattle.std.specs.Prelude.{All, AllPairs}
pub use Rattle.std.proofs.lemmas.List.{get_or-replicate}
pub use Rattle.step_ledger.specs.History.{total}
pub use Rattle.tag_pool.specs.declared.kind.Kind.{Kind}
pub use Rattle.tag_pool.specs.declared.kind.Kind.TheVariants.{Ordinary, Reserved}
pub use Rattle.wake_book.specs.Book.{steps_of}
pub use Rattle.wake_book.specs.Charging.{IsCharge}
pub use Rattle.wake_book.specs.Groups.{announced_beside, announced_steps, GrantsUnrung, LeavesAs, RingsNobody, sighted_beside, sighted_steps, StandsAsBefore, wait_index_of}
pub use Rattle.wake_book.specs.Waits.{active_at, moved_by}
pub use Rattle.wake_book.specs.Walks.{IsLeave, IsWalk}
pub use Rattle.wake_book.specs.declared.book.Teller.{Teller}
pub use Rattle.wake_book.specs.declared.charge.Charge.{Charge}
pub use Rattle.wake_book.specs.declared.charge.Charge.TheVariants.{Full, Below, Won, Busy}
pub use Rattle.wake_book.specs.declared.groups.Waiter.{Waiter}
pub use Rattle.wake_book.specs.declared.steps.GroupStep.{GroupStep}
pub use Rattle.wake_book.specs.declared.steps.GroupStep.TheVariants.{Enter, Look, Raise}
pub use Rattle.tag_queue.specs.Hands.{batch_of, book_steps, cap_of, group_steps, in_pool, IsHandOf, IsStillOf, pool_of, SameCounts, SameTags, standing_of, teller_of, waiter_of}
pub use Rattle.tag_queue.specs.Clears.{Charges, ChargesNow, Counts, CountsInGroups, FindsNoneActive, Follows, SightsAfter}
pub use Rattle.tag_queue.specs.declared.hand.QueueHand.{QueueHand}
pub use Rattle.tag_queue.specs.declared.queue.Queue.{Queue}
pub use Rattle.std.specs.Coded.{le_prop}
pub use native.Mathlib.Nat.{ℕ_set}
pub use mathlib.Core.Option.{some}
pub use lib.ListN.{get_elem?}
pub use Rattle.tag_pool.specs.declared.hand.Hand.{Hand}
pub use Rattle.tag_core.specs.declared.shape.Shape.{Shape}
pub use Rattle.tag_pool.specs.Gets.{Gets, whole}
pub use Rattle.tag_pool.specs.Hands.{HasRoom, layout_of, reserved_of}
pub use Rattle.tag_pool.specs.Lending.{side_of}
pub use Rattle.tag_pool.specs.Sets.{first_of}
pub use Rattle.tag_pool.specs.declared.pool.Pool.{Pool}
pub use Rattle.wake_book.specs.declared.rings.Rung.TheVariants.{Nudged}
pub use Rattle.tag_queue.specs.Blocking.{AreRounds, BlockingGets, FindNone, GetsPlain, IsRound, IsStay, PassesOn, WaitsFor}
pub use Rattle.tag_queue.specs.Looks.{LooksAfter}
