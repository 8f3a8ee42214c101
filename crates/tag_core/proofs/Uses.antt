-- The names that several proofs use, of the library, the crates below and the definitions here.
pub use Rattle.std.proofs.Common.{[], All, ap, append_assoc, arith, bit_and, bit_or, Bool, cond, count_ones, eq-eqb, eqb, eqb-true, false, get_or, get_or-set_other, get_or-set_same, Global, inl, inr, IsTrue, length, length-append, length-set, List, map, max, min, nat_eq, ne_eqb, None, refl}
pub use Rattle.std.proofs.Common.{replicate, rules, set, slice_index, slice_index_or, slice_set, Some, subst, suc, sym, take, true, Vec, vec_capacity, vec_len, zero, ℕ, ⊎_elim, ◌∙◌}
pub use Rattle.std.proofs.Math.Logic.{∥∥₁_elim, ∥∥₁_map, ∥∥₁_prop}
pub use Rattle.std.proofs.Math.Nat.{mul-le-mul_right, one-mul}
pub use Rattle.std.proofs.lemmas.List.{get_or_read, map-append}
pub use Rattle.std.proofs.lemmas.List.Elements.{All-push}
pub use Rattle.std.proofs.lemmas.Nat.{and_comm, and_le_l, div-add-mod', mod_below, one_shl, ones-le, ones_cat, or_disjoint, or_lt, pow_below, pow_pos}
pub use Rattle.std.proofs.lemmas.Nat.Bits.{and_pow, bit_at-lt, bit_at-pow_other, bit_at-pow_same, bit_at-trailing_zeros, bit_at-zero, bit_at_above, bit_at_and, bit_at_not, bit_at_or, same_from_bits, same_from_bits_below}
pub use Rattle.std.specs.Coded.{le_prop}
pub use Rattle.std.specs.Int.{bit_at, bit_not, trailing_zeros, w64}
pub use Rattle.std.specs.Slots.{slots_filled, slots_items, slots_len}
pub use mathlib.Core.Logic.{dite}
pub use mathlib.Core.Option.{none, some, some-injective, some-ne-none}
pub use native.Mathlib.Decide.{dec_lt, ℕ_discrete}
pub use lib.Bits.{and_step, or_zero_l}
pub use lib.ListN.{get_elem?, length-replicate}
pub use lib.Seq.{set-get_or}
pub use Rattle.atomic_table.proofs.Lists.{at_index, at_map, at_set, exchanged, set_else, set_here}
pub use Rattle.atomic_table.specs.Table.{Act, Allows, carried_after, chain, Final, gives, homes_after, Joins, keeps, Me, opening, rest, Seen, Splits, State, step, takes, Valid}
pub use Rattle.step_ledger.proofs.Fresh.{next_first, next_is, next_others, standing-fresh}
pub use Rattle.step_ledger.proofs.Seats.{each_same, first_only, pairs_more, same_record, Standing, within}
pub use Rattle.step_ledger.proofs.Turned.{all_front, all_last, some_there, taken_first}
pub use Rattle.step_ledger.proofs.Whole.{has_record, number_in, number_once, total_of_all}
pub use Rattle.step_ledger.specs.Gather.{Has, HasAll}
pub use Rattle.step_ledger.specs.Views.{both_views, first_view, other_views, own_view, rest_of, viewing}
pub use Rattle.sums.proofs.Laws.{one_if-bit, one_if-le, sum_below-first, sum_below-le, sum_below-none, sum_below-only, sum_below-same, sum_below-swap}
pub use Rattle.sums.specs.Below.{one_if, sum_below}
pub use Rattle.tag_layout.proofs.PlaceFacts.{place_of-below, place_of-tag_at, tag_at-back, tag_at-below, word_bits-le, word_of-below, word_of-tag_at}
pub use Rattle.tag_layout.specs.Layout.{IsWithin, Layout, place_of, tag_at, word_bits, word_depth, word_of, words}
pub use Rattle.tag_model.proofs.BalanceFacts.{balances-history, sum_below-plus_at}
pub use Rattle.tag_model.proofs.HistoryFacts.{back-history, plus_at-else, plus_at-here, plus_at-none, won-history}
pub use Rattle.tag_model.specs.Event.{back_by, caller_of, is_in_mask, IsInLayout, spilled_by, swept_by, won_by}
pub use Rattle.tag_model.specs.Runs.{after_history, IsHistory}
pub use Rattle.tag_model.specs.Totals.{AreTotals, back_in, Balances, got_in, held_in, is_held, is_posted, posted_in}
pub use Rattle.tag_model.specs.World.{after, MayHappen, place_after, plus_at, World}
pub use Rattle.tag_model.specs.declared.event.Event.{Event}
pub use Rattle.tag_model.specs.declared.place.Place.{Place}
pub use Rattle.tag_model.specs.declared.place.Place.TheVariants.{Aside as aside, Free as free, Held as held, Posted as posted, Sweep as sweep}
pub use Rattle.tag_model.specs.declared.totals.Totals.{Totals}
pub use Rattle.tag_model.specs.declared.world.TheConstants.{MAX_CALLERS, MOST_WON}
pub use prog.Atomic.{either}
pub use Rattle.tag_core.specs.Berths.{berth_of, berth_word, IsListed, IsListedAs, IsTold, IsUp, same_waiter, told_as, TurnFits, waiter_bit, waiter_of}
pub use Rattle.tag_core.specs.Bits.{aside_bit, held_bit, posted_bit, posted_by_word, state_word, sweep_bit, word_bit}
pub use Rattle.tag_core.specs.Callers.{Adds, AddsTwo, AreUnchanged, HaveOwnNumbers, Holds, IsCallerOf, IsUnchanged, layout_of, record_of, slot_of}
pub use Rattle.tag_core.specs.Chain.{CountsChain, Epoch, GoesOn, HasChain, IsChain, opened, reopened}
pub use Rattle.tag_core.specs.Gathering.{gathered, numbers, numbers_of}
pub use Rattle.tag_core.specs.Histories.{Cells, cells_after, cells_of, EachFinds, event_of, events_of, FindsIn, FindsPost, History, IsLawful, last_post, opening_world, posted_by, steps_by, world_of}
pub use Rattle.tag_core.specs.Holding.{HoldsLess, HoldsMore, HoldsSame, IsInMask}
pub use Rattle.tag_core.specs.Meeting.{AreApart, HasHistory, ShareHistory}
pub use Rattle.tag_core.specs.Plays.{claimed, counted, enlisted, entered, FindsHeld, fronted, gave, got_up, kept_least, looked, looked_all, looked_aside, looked_at, met, note_read, ordered, put_aside, settled, spilled, Stepped, swapped, told, took, turn_taken}
pub use Rattle.tag_core.specs.Records.{but, Carries, fresh_record, held_after, joined, parted, record_after, StartsAtZero, swept_after, tag_bit, tags_from, value_of}
pub use Rattle.tag_core.specs.Reopening.{AllFree, AreReopened, GoesOnFrom, HasCounts, IsNext, LeadsOn, reopened_record}
pub use Rattle.tag_core.specs.Rule.{HasCells, IsKnown, IsOpening, Shown, SlotIs}
pub use Rattle.tag_core.specs.Settling.{AreSettled, HasRecords}
pub use Rattle.tag_core.specs.Sizes.{size_of, total_of}
pub use Rattle.tag_core.specs.Steps.{changed_at, least_bit, without}
pub use Rattle.tag_core.specs.Views.{all_fresh, fresh, steps_of, View}
pub use Rattle.tag_core.specs.Waits.{AgreesWith, bit_of, FindsWaits, HasTaken, IsBy, IsIn, IsOwn, newly_told, Waits, waits_after, waits_as, with_berth}
pub use Rattle.tag_core.specs.declared.bell_step.BellStep.{BellStep}
pub use Rattle.tag_core.specs.declared.bell_step.BellStep.TheVariants.{Enlist, Enter, GetUp, Leave, LookAll, LookAt, TakeTurn, Tell}
pub use Rattle.tag_core.specs.declared.berth.Berth.{Berth}
pub use Rattle.tag_core.specs.declared.berth.Berth.TheVariants.{Listed, Told, Up}
pub use Rattle.tag_core.specs.declared.berth.TheConstants.{TURNS}
pub use Rattle.tag_core.specs.declared.berth.Waiter.{Waiter}
pub use Rattle.tag_core.specs.declared.berth.Waiter.TheVariants.{Listener, Sleeper}
pub use Rattle.tag_core.specs.declared.caller.Caller.{Caller}
pub use Rattle.tag_core.specs.declared.map.Map.{Map}
pub use Rattle.tag_core.specs.declared.record.Record.{Record}
pub use Rattle.tag_core.specs.declared.shape.Shape.{Shape}
pub use Rattle.tag_core.specs.declared.step.Step.{Step}
pub use Rattle.tag_core.specs.declared.step.Step.TheVariants.{Bell, Post, ReadNote, Take, Word}
pub use Rattle.tag_core.specs.declared.word_step.WordStep.TheVariants.{Claimed, Give, Keep, Look, LookAside, Put, Spill, Swap}
