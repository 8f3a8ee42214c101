-- The names that several proofs use, of the library, the crates below and the definitions here.
pub use Rattle.std.proofs.Common.{[], ap, arith, bit_and, bit_or, Bool, cond, count_ones, eq-eqb, eqb-true, Err, false, get_or, get_or-set_other, get_or-set_same, inl, inr, length, List, map, max, min, nat_eq, nat_le, nat_lt, ne_eqb, None, not, Ok, Option, refl, replicate, Result, rules, set, Some}
pub use Rattle.std.proofs.Common.{subst, suc, sym, true, zero, ℕ, ⊎_elim, ◌∙◌}
pub use Rattle.std.proofs.Math.ListN.{length-set}
pub use Rattle.std.proofs.Math.Nat.{div-le_self, div-mul-le_self, mod-eq-sub-div-mul, mod-eq_of_lt, mul-div_cancel, mul-mod_left, pow-le-pow_right, pow-suc}
pub use Rattle.std.proofs.lemmas.Bool.{cases_Bool, cases_lt, le-leb, le-ltb, lt-leb, lt-ltb, ltb-true}
pub use Rattle.std.proofs.lemmas.List.{append-nil, append_assoc, get_or-replicate, get_or_past, get_or_read, length-append, length-replicate, map-append, set-get_or}
pub use Rattle.std.proofs.lemmas.List.Elements.{All-append, All-cons, All-contains, All-head, All-map, All-nil, All-tail, All-weaker, Contains-append_cases, Contains-append_left, Contains-append_right}
pub use Rattle.std.proofs.lemmas.Nat.{and_le_l, and_mod, div-add-mod', mod_below, one_shl, ones_cat, pow_below, pow_pos, shl_below, shl_whole}
pub use Rattle.std.proofs.lemmas.Nat.Bits.{and_pow, bit_at-lt, bit_at-pow_other, bit_at-pow_same, bit_at-zero, bit_at_above, bit_at_and, bit_at_cat_high, bit_at_cat_low, bit_at_not, bit_at_ones, bit_at_ones_above, bit_at_or, ones_shr, same_from_bits}
pub use Rattle.std.specs.Int.{bit_at, trailing_zeros, w64}
pub use Rattle.std.specs.Int.Bits.{and_zero_l, or_zero_r}
pub use Rattle.std.specs.List.{AllByRecursion}
pub use Rattle.std.specs.Prelude.{All, Contains, IfErr, IfNone, IfOk, IfSome, IsTrue}
pub use mathlib.Core.Logic.{dite}
pub use native.Mathlib.Decide.{dec_le, dec_lt, ℕ_discrete}
pub use lib.Count.{ones}
pub use Rattle.step_ledger.specs.History.{total}
pub use Rattle.tag_layout.proofs.PlaceFacts.{low_bits, place_of-below, place_of-tag_at, tag_at-back, tag_at-below, word-start, word_bits-le, word_depths-sum, word_of-below, word_of-tag_at}
pub use Rattle.tag_layout.proofs.Scans.{bit_at-shr}
pub use Rattle.tag_layout.specs.Bits.{AllSet, IsFirstClear}
pub use Rattle.tag_layout.specs.Layout.{IsWithin, Layout, place_of, tag_at, word_bits, word_depth, word_of, words}
pub use Rattle.tag_search.specs.Added.{AddsSteps, AddsSteps as Ports, SameRoom}
pub use Rattle.tag_search.specs.Alone.{Chooses, ChoosesRun, is_posted, IsAlone, LeavesPool, pool_left}
pub use Rattle.tag_search.specs.AloneLaws.{AloneBatchesChoose, AloneGetsChoose, AreAlone, cells_left, own_after, words_left}
pub use Rattle.tag_search.specs.Batch.{batch_over, batch_passed, batch_won, batch_words, IsBatchGet, IsBatchSearch, IsBatchVisit, IsSweptLook, no_run, run_lost, run_mask, run_taken, run_won, swept_look}
pub use Rattle.tag_search.specs.Begun.{IsBegun, IsRestOfGet, IsWonAtOnce, MissesFirst, visits_from}
pub use Rattle.tag_search.specs.Choice.{batch, chosen_aside, chosen_free, HasNoRun, HoldsRun, IsAside, IsAvailable, IsAvailableRun, IsBatchChoice, IsBusy, IsChoice, IsFirst, IsFree, IsFull, IsHeld, IsLeastAvailable, IsSet, no_batch, nothing, words_in}
pub use Rattle.tag_search.specs.Freed.{spilled as freed_by, freed_of, held_of, latest_in, left_free, spilled_by}
pub use Rattle.tag_search.specs.Gains.{count_of, count_of_run, Gains, GainsRun, held_with, held_with_run, IsAnswer, IsInRun}
pub use Rattle.tag_search.specs.Gets.{IsGet}
pub use Rattle.tag_search.specs.Hints.{hint_after_get, reduced}
pub use Rattle.tag_search.specs.Order.{left_of_scan, numbers, numbers_from, scan_order}
pub use Rattle.tag_search.specs.Places.{places_of}
pub use Rattle.tag_search.specs.Plain.{IsTaken, Plain, plain_words, RunsAlone}
pub use Rattle.tag_search.specs.PlainLaws.{words_after-append}
pub use Rattle.tag_search.specs.Pool.{free_at, freed_in, is_available, is_busy, is_in, IsApart, Pool, pool_of, set_aside, taken_at, taken_from, taken_in}
pub use Rattle.tag_search.specs.Scans.{reach_of}
pub use Rattle.tag_search.specs.Search.{AllTaken, at_once, empty, IsFirstInRank, IsFirstSwept, IsKeepingSweep, IsLeastKept, IsPass, IsRetry, IsSearch, IsSweep, IsTries, IsVisit, kept_alone, kept_one, loses, most_turns, no_turn, none_left, over, pass, passed, retried, spilled, turn_kept, turn_passed}
pub use Rattle.tag_search.specs.Search.{turn_won, unseen, Visit, wins, won}
pub use Rattle.tag_search.specs.Shared.{AddsAll, AddsThrough, FindsHeldBy, FindsWord, HasRoom, latest_after_all, latest_of, Makes, record_after_all}
pub use Rattle.tag_search.specs.SharedLaws.{adds_nothing, adds_on, record_after-append, shape_after}
pub use Rattle.tag_search.specs.Tries.{Completes, given, IsFirstWin, IsMissed, IsRestOfPass}
pub use Rattle.tag_search.specs.Visits.{IsPlainSearch, places_in, plain_reach, plain_visits, Reach, shallow_reach, shallow_visits, visit_of, visits}
pub use Rattle.tag_search.specs.Writes.{IsAllFree, IsIn, IsTidy, WritesBits}
pub use Rattle.tag_search.specs.declared.hint.Hint.{Hint}
pub use Rattle.tag_search.specs.declared.search.Unfinished.{Unfinished}
pub use Rattle.tag_search.specs.declared.search.Unfinished.TheVariants.{Full, Lost, NotBegun}
pub use Rattle.tag_search.specs.declared.shared.Shared.{Shared}
pub use Rattle.tag_core.proofs.Holdings.{acquires, alone_named, is_one, keeps_all}
pub use Rattle.tag_model.proofs.HoldingFacts.{less_like, more_like}
pub use Rattle.tag_core.proofs.Masks.{bit_minus, minus_le}
pub use Rattle.tag_core.proofs.OneBit.{bit_is, count_ones-pow, count_ones-zero, none_where_taken, won_where_clear}
pub use Rattle.tag_core.specs.Callers.{Adds, AddsTwo, Holds, IsCallerOf, layout_of, record_of, SameMap, slot_of}
pub use Rattle.tag_core.specs.Histories.{Cells, cells_after, cells_of, EachFinds, FindsIn, History, steps_by}
pub use Rattle.tag_core.specs.Holding.{HoldsMore, IsInMask}
pub use Rattle.tag_core.specs.Keeping.{IsLeastIn, KeepsLeast}
pub use Rattle.tag_core.specs.Records.{held_after_word, joined, record_after, tag_bit}
pub use Rattle.tag_core.specs.Steps.{changed_at, Finds, Quiet, without, Words, words_after, words_after_all}
pub use Rattle.tag_core.specs.declared.caller.Caller.{Caller}
pub use Rattle.tag_core.specs.declared.map.Map.{Map}
pub use Rattle.tag_core.specs.declared.record.Record.{Record}
pub use Rattle.tag_core.specs.declared.shape.Shape.{Shape}
pub use Rattle.tag_core.specs.declared.step.Step.{Step}
pub use Rattle.tag_core.specs.declared.step.Step.TheVariants.{Bell, Post, ReadNote, Take, Word}
pub use Rattle.tag_core.specs.declared.word_step.WordStep.{WordStep}
pub use Rattle.tag_core.specs.declared.word_step.WordStep.TheVariants.{Claimed, Give, Keep, Look, LookAside, Put, Spill, Swap}
pub use Rattle.tag_bell.specs.Waiting.{in_aside, in_word, Opens, Owes, OwesNothing, Shuts, Tried, TriedAll}
