-- The names that several proofs use, of the library, the crates below and the definitions here.
pub use Rattle.std.proofs.Common.{[], ap, arith, bit_or, Bool, cond, drop, eq-eqb, false, get_or, IsTrue, length, List, map, ne_eqb, None, Option, refl, rules, Some, subst, suc, sym, take, true, zero, ℕ, ◌∙◌}
pub use Rattle.std.proofs.Crossing.{crosses}
pub use Rattle.std.proofs.lemmas.List.Elements.{All-append, All-cons, All-drop, All-from_get_or, All-head, All-map, All-nil, All-push, All-tail, All-take}
pub use Rattle.std.proofs.lemmas.Nat.{one_shl, pow_below}
pub use Rattle.std.proofs.lemmas.Nat.Bits.{bit_at-pow_other, bit_at_set_other, bit_at_set_same}
pub use Rattle.std.specs.Int.{bit_at, w64}
pub use Rattle.std.specs.Prelude.{All, insert, nat_le, nat_lt, not}
pub use denote.Param.Send.{IsSync, sendable}
pub use mathlib.Core.Logic.{dite}
pub use mathlib.Core.Option.{some}
pub use native.Mathlib.Decide.{dec_lt, ℕ_discrete}
pub use Rattle.base_tests.specs.Marks.{aside_then, free_then, mark_at, pool_of_marks}
pub use Rattle.step_ledger.specs.Gather.{HasAll}
pub use Rattle.step_ledger.specs.declared.record.Record.{Record}
pub use Rattle.tag_core.proofs.Crossing.{caller_send, map_sync}
pub use Rattle.tag_core.specs.Callers.{Holds, IsCallerOf}
pub use Rattle.tag_layout.proofs.PlaceFacts.{place_of-tag_at, tag_at-below, word_of-below, word_of-tag_at}
pub use Rattle.tag_layout.specs.Layout.{IsWithin, Layout, place_of, tag_at, word_bits, word_depth, word_of, words}
pub use Rattle.tag_search.proofs.Orders.{all_scan}
pub use Rattle.tag_search.specs.Batch.{batch_words}
pub use Rattle.tag_search.specs.Choice.{batch, chosen_aside, chosen_free, HasNoRun, IsAside, IsAvailable, IsAvailableRun, IsBatchChoice, IsBusy, IsChoice, IsFirst, IsFree, IsFull, IsLeastAvailable, IsSet, no_batch, nothing, words_in}
pub use Rattle.tag_search.specs.Hints.{reduced}
pub use Rattle.tag_search.specs.Order.{scan_order}
pub use Rattle.tag_search.specs.Plain.{IsTaken}
pub use Rattle.tag_search.specs.Pool.{freed_in, is_available, is_in, Pool, taken_at, taken_from}
pub use Rattle.tag_search.specs.Scans.{limit_of}
pub use Rattle.tag_search.specs.Visits.{Reach, visit_of, visits}
pub use Rattle.wake_book.proofs.Crossing.{groups_sync, waiter_send}
