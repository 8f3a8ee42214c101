-- The names that several proofs use, of the library, the crates below and the definitions here.
pub use Rattle.std.proofs.Common.{[], ap, arith, Bool, cond, eq-eqb, eqb, get_or, get_or-set_other, get_or-set_same, inl, inr, length, length-set, List, min, nat_eq, ne_eqb, None, Option, refl, replicate, set, Some, subst, suc, sum, sym, zero, ℕ, ⊎_elim, ◌∙◌}
pub use Rattle.std.proofs.lemmas.List.Sums.{sum_by-cons, sum_by-set}
pub use Rattle.std.specs.Slots.{slots_items}
pub use mathlib.Core.Logic.{dite}
pub use mathlib.Core.Option.{none, some, some-injective, some-ne-none}
pub use native.Mathlib.Decide.{ℕ_discrete}
pub use lib.ListN.{get_elem?}
pub use lib.Seq.{set-get_or}
pub use Rattle.atomic_table.proofs.Lists.{exchanged}
pub use Rattle.atomic_table.specs.Table.{Allows, carried_after, Final, Me, Seen, Step, step}
pub use Rattle.step_ledger.proofs.Gathers.{Gathered, gathered}
pub use Rattle.step_ledger.proofs.Members.{allows, joins, opens, own_else, own_here, pushed, settled, splits_next}
pub use Rattle.step_ledger.proofs.Numbers.{numbered_all, numbered_records}
pub use Rattle.step_ledger.proofs.Totals.{totals}
pub use Rattle.step_ledger.proofs.Turned.{joined, numbers_all, sum_joined, sum_turned, turned_back}
pub use Rattle.step_ledger.specs.Gather.{HasAll, turned}
pub use Rattle.step_ledger.specs.History.{Lawful, own_steps, total, total_all}
pub use Rattle.step_ledger.specs.Records.{fresh_record, numbers, push, Records, Stepped, steps_of, sum_over, with_step}
pub use Rattle.step_ledger.specs.Views.{first_view, other_views, own_view}
pub use Rattle.step_ledger.specs.declared.record.Record.{Record}
pub use Rattle.sums.proofs.Laws.{le-sum_below, sum_below-add, sum_below-bound, sum_below-only, sum_below-same, sum_below-three, sum_below-zero}
pub use Rattle.sums.specs.Below.{one_if, sum_below}
pub use prog.Atomic.{either}
pub use Rattle.wake_book.specs.Book.{charged_by, IsTellerOf, number_of, tellers_of}
pub use Rattle.wake_book.specs.Charges.{added, adding, advancing, book_width, BookRule, charged, completions_at, completions_in, covers, exchange_to, looked_completions, looked_wakeups, opening_words, taken, wakeups_at, wakeups_in}
pub use Rattle.wake_book.specs.Charging.{LosesTries}
pub use Rattle.wake_book.specs.Grants.{granted_in}
pub use Rattle.wake_book.specs.Groups.{IsNew, IsWaiterOf, moved_of, record_of, standing_of, StandsSilent, waiters_of}
pub use Rattle.wake_book.specs.Stands.{stand_code, StandsSo}
pub use Rattle.wake_book.specs.WaitPlays.{entering, granting, leaving, looked_active, looked_group, looked_index, lowering, raising, storing}
pub use Rattle.wake_book.specs.Waits.{active_at, granted, group_at, groups_width, GroupsRule, index_at, MayStep, moved_by, moved_in, one_waiting, raised, stand, stands_in, used_by, waiting, word, words_after, words_in}
pub use Rattle.wake_book.specs.Walks.{AreVisits, Idles, IsCalledFor, IsLeave, IsWalk, IsWayOut, looked, LosesAndLooks, LosesGrants, VisitsGroup, WalksOn}
pub use Rattle.wake_book.specs.declared.book.Limits.{Limits}
pub use Rattle.wake_book.specs.declared.groups.Waiter.{Waiter}
pub use Rattle.wake_book.specs.declared.steps.BookStep.{BookStep}
pub use Rattle.wake_book.specs.declared.steps.BookStep.TheVariants.{Add, Advance, LookCompletions, LookWakeups}
pub use Rattle.wake_book.specs.declared.steps.GroupStep.{GroupStep}
pub use Rattle.wake_book.specs.declared.steps.GroupStep.TheVariants.{Enter, Grant, Look, Lower, Raise, Store, Use, Withdraw}
pub use Rattle.wake_book.specs.declared.waiting.Left.{Left}
pub use Rattle.wake_book.specs.declared.waiting.Left.TheVariants.{Unwoken, Woken}
