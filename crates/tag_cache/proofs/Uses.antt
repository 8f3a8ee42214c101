-- The names that several proofs use, of the library, the crates below and the definitions here.
pub use Rattle.std.proofs.Common.{[], All, ap, arith, Bool, eq-eqb, eqb-true, Err, false, get_or, get_or-set_other, get_or-set_same, IfErr, IfNone, IfOk, IfSome, inl, inr, length, length-set, List, max, None, Ok, OnErr, OnOk, Option, refl, Result, rules, set, Some, subst, suc, sum, sym, true, zero}
pub use Rattle.std.proofs.Common.{ℕ, ⊎_elim, ◌∙◌}
pub use Rattle.std.proofs.lemmas.Bool.{cases_lt, false≢true}
pub use Rattle.std.proofs.lemmas.List.{get_or-replicate, take_all}
pub use Rattle.std.proofs.lemmas.List.Sums.{sum_by-cons, sum_by_more}
pub use Rattle.std.proofs.lemmas.Nat.{and_le_l, one_shl, ones_le_self, or_lt}
pub use Rattle.std.proofs.lemmas.Nat.Bits.{bit_at-lt, bit_at-pow_other, bit_at-pow_same, bit_at-trailing_zeros, bit_at-zero, bit_at_above, bit_at_and, bit_at_clear_other, bit_at_clear_same, bit_at_not, bit_at_or, bit_at_set_other, bit_at_set_same, same_from_bits}
pub use Rattle.std.proofs.lemmas.Result.{IfOk-weaker, on_ok_weaker}
pub use Rattle.std.specs.Int.{bit_at, bit_not, trailing_zeros, w64}
pub use Rattle.std.specs.Prelude.{bit_and, bit_or, Contains, count_ones, IsOk, IsOkAnd, IsTrue, slice_index}
pub use mathlib.Core.Logic.{dite}
pub use native.Mathlib.Decide.{ℕ_discrete}
pub use Rattle.refusals.specs.Refusals.{Checks, FailsFirst, PassesAll, RefusesBy}
pub use Rattle.tag_layout.specs.Layout.{Layout, place_of, word_of}
pub use Rattle.tag_search.specs.Gains.{count_of_run, count_of as won_by}
pub use Rattle.tag_search.specs.declared.found.Found.{Found}
pub use Rattle.tag_search.specs.declared.hint.Hint.{Hint}
pub use Rattle.tag_core.specs.Callers.{Adds, record_of}
pub use Rattle.tag_core.specs.declared.berth.Waiter.{Waiter}
pub use Rattle.tag_core.specs.declared.caller.Caller.{Caller}
pub use Rattle.tag_core.specs.declared.record.Record.{Record}
pub use Rattle.tag_core.specs.declared.step.Step.TheVariants.{Word}
pub use Rattle.tag_core.specs.declared.word_step.WordStep.TheVariants.{Look, LookAside, Put}
pub use Rattle.tag_bell.specs.Calls.{nobody, OnlyAdds}
pub use Rattle.tag_bell.specs.Sleeping.{told_by}
pub use Rattle.tag_bell.specs.declared.sleeping.Woken.{Woken}
pub use Rattle.tag_bell.specs.declared.told.Told.{Told}
pub use Rattle.tag_bell.specs.declared.waiting.Turn.{Turn}
pub use Rattle.tag_pool.proofs.MaskTags.{bit_from, one_in-tags, place_one, tags_in-length, tags_in-one}
pub use Rattle.tag_pool.proofs.Numbering.{IsOrdinary, IsReserved, ordinary_above, ordinary_at, reserved_at, reserved_below, stands}
pub use Rattle.tag_pool.specs.Batches.{GivesBack as GivesBatch}
pub use Rattle.tag_pool.specs.Gets.{IsAnswer, IsInRun, IsTagIn, LooksAfter, whole, whole_run}
pub use Rattle.tag_pool.specs.Hands.{back_of, caller_of, Changes, IsHandOf, layout_of, reserved_of, split_of, total_of}
pub use Rattle.tag_pool.specs.Lending.{side_of}
pub use Rattle.tag_pool.specs.Lists.{AreOrdinary}
pub use Rattle.tag_pool.specs.Masks.{mask_bit, tags_in}
pub use Rattle.tag_pool.specs.Runs.{CountsTags}
pub use Rattle.tag_pool.specs.Sets.{kind_of, number_in_set, other_kind}
pub use Rattle.tag_pool.specs.Slots.{Posts}
pub use Rattle.tag_pool.specs.Tallies.{back_in_both, won_in_both, won_of}
pub use Rattle.tag_pool.specs.declared.fault.TagFault.{TagFault}
pub use Rattle.tag_pool.specs.declared.fault.TagFault.TheVariants.{BadCount, NoSuchTag, NotHeld, NotPosted}
pub use Rattle.tag_pool.specs.declared.hand.Hand.{Hand}
pub use Rattle.tag_pool.specs.declared.kind.Kind.{Kind}
pub use Rattle.tag_pool.specs.declared.kind.Kind.TheVariants.{Ordinary, Reserved}
pub use Rattle.tag_pool.specs.declared.pool.Pool.{Pool}
pub use Rattle.tag_pool.specs.declared.side.Side.{Side}
pub use Rattle.tag_cache.specs.Batches.{answered_run, AreHeldOnce, AreLast, GivesKeptAndList, GoesOn, LeavesNone, ListGoes, ListGoesAlone}
pub use Rattle.tag_cache.specs.Bell.{FindsNobody, LooksForWaiters, SeesTo, TellsWithKept}
pub use Rattle.tag_cache.specs.Caches.{CanBeKept, count_of, HasNoPlace, Holds, IsCacheOf, IsFixed, IsKept, IsKnown, IsLast, IsWithin, keeping_of, KeepsNone, KeepsWithCare, kept_tags, LeavesWindow, reused_of}
pub use Rattle.tag_cache.specs.Changes.{Forgets, HandsOut, IsUnchanged, KeepsAlso, KeepsOnly, KeepsSame, KnowsLess, KnowsNoneOf, Learns, Reuses, SameHand, SameTerms, SameWindow, TakesKept}
pub use Rattle.tag_cache.specs.Clears.{CallsFor, GivesAlone, GivesKept, GivesList, GivesOne, GivesWith, Goes, GoesBy, GoesOrdinary}
pub use Rattle.tag_cache.specs.Gets.{Gets, GetsAndLooks, GetsBy}
pub use Rattle.tag_cache.specs.Holding.{HoldsLess, HoldsMore, HoldsSame, IsLeftWith, Writes}
pub use Rattle.tag_cache.specs.Refusals.{blocking_checks, tag_checks}
pub use Rattle.tag_cache.specs.Same.{SameTags}
pub use Rattle.tag_cache.specs.Sleeping.{GetsBlocking, SeesToAndWakes, WakesFor}
pub use Rattle.tag_cache.specs.Telling.{ClearsAndWakes, ClearsListAndWakes, EndsAndWakes, FlushesAndWakes, freed_with, PostsAndWakes}
pub use Rattle.tag_cache.specs.Slots.{Passes, PassesAlone, PostsLast}
pub use Rattle.tag_cache.specs.Tallies.{answered, Tallies}
pub use Rattle.tag_cache.specs.Windows.{AreOwn, IsIn}
pub use Rattle.tag_cache.specs.declared.cache.Cache.{Cache}
pub use Rattle.tag_cache.specs.declared.cache.TheConstants.{MOST_REUSED}
pub use Rattle.tag_cache.specs.declared.keeping.Keeping.TheVariants.{WhileHolding}
pub use Rattle.tag_cache.specs.declared.way.Way.{Way}
pub use Rattle.tag_cache.specs.declared.way.Way.TheVariants.{GiveBack, GiveBackAll, Keep, KeepInstead}
