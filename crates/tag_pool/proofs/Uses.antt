-- The names that several proofs use, of the library, the crates below and the definitions here.
pub use Rattle.std.proofs.Common.{[], All, ap, append_assoc, arith, bit_and, bit_or, Bool, cond, count_ones, eq-eqb, eqb-true, Err, false, IfErr, IfOk, IfSome, inl, inr, IsFalse, IsTrue, length, length-append, List, max, min, nat_eq, nat_lt, ne_eqb, None, Ok, OnErr, OnOk, Option, refl, Result, rules, Some, subst, suc, sym, take, true, zero, ℕ, ⊎_elim, ◌∙◌}
pub use Rattle.std.proofs.Common.{get_or, map, replicate}
pub use Rattle.std.proofs.lemmas.List.{append-nil, get_or-map, get_or-take, get_or_push, length-map, length-take, nil_from_length, take_more}
pub use Rattle.std.proofs.lemmas.List.Elements.{All-contains, All-push, Contains-append_cases, Contains-append_left, Contains-append_right, Contains-get_or, Contains-push, Contains-push_cases}
pub use Rattle.std.proofs.lemmas.Nat.Bits.{bit_at-lt, bit_at-pow_other, bit_at-trailing_zeros, bit_at-zero, bit_at_above, bit_at_and, bit_at_cat_high, bit_at_cat_low, bit_at_or}
pub use Rattle.std.specs.Int.{bit_at, trailing_zeros, w64}
pub use lib.ListN.{get_elem?}
pub use Rattle.atomic_table.proofs.Lists.{at_map}
pub use Rattle.tag_core.proofs.Entries.{entry_or}
pub use Rattle.tag_core.proofs.Passing.{zeros}
pub use Rattle.tag_core.specs.declared.map.Map.{Map}
pub use Rattle.std.proofs.lemmas.Bool.{cases_lt, le-ltb, lt-ltb, ltb-false, ltb-true}
pub use mathlib.Core.Logic.{dite}
pub use mathlib.Core.Option.{some}
pub use native.Mathlib.Decide.{ℕ_discrete}
pub use native.Mathlib.Nat.{ℕ_set}
pub use Rattle.refusals.specs.Refusals.{Checks, FailsFirst, PassesAll, RefusesBy}
pub use Rattle.tag_layout.specs.Layout.{IsWithin, Layout, place_of, tag_at, word_bits, word_depth, word_of, words}
pub use Rattle.tag_core.specs.Callers.{Adds, IsCallerOf, record_of}
pub use Rattle.tag_core.specs.Records.{record_after, tag_bit, tags_from}
pub use Rattle.tag_core.specs.declared.caller.Caller.{Caller}
pub use Rattle.tag_core.specs.declared.record.Record.{Record}
pub use Rattle.tag_core.specs.declared.shape.Shape.{Shape}
pub use Rattle.tag_core.specs.declared.step.Step.TheVariants.{Word}
pub use Rattle.tag_core.specs.declared.word_step.WordStep.{WordStep}
pub use Rattle.tag_search.specs.Shared.{Makes}
pub use Rattle.tag_search.specs.declared.found.Found.{Found}
pub use Rattle.tag_pool.specs.Sets.{first_of, kind_of, number_in_set, numbers_of, other_kind}
pub use Rattle.tag_pool.specs.Lending.{side_of, with_side}
pub use Rattle.tag_pool.specs.Gets.{Gets, LooksAfter, whole}
pub use Rattle.tag_pool.specs.Hands.{back_of, Changes, ChangesAt, hint_of, Holds, IsHandOf, IsStillOf, layout_of, map_of, reserved_of, slot_of, split_of, step_count, total_of}
pub use Rattle.tag_pool.specs.Holding.{HoldsLess, HoldsMore, HoldsSame}
pub use Rattle.tag_pool.specs.declared.fault.TagFault.{TagFault}
pub use Rattle.tag_pool.specs.declared.hand.Hand.{Hand}
pub use Rattle.tag_pool.specs.declared.side.Side.{Side}
pub use Rattle.tag_pool.specs.declared.kind.Kind.{Kind}
pub use Rattle.tag_pool.specs.declared.kind.Kind.TheVariants.{Ordinary, Reserved}
pub use Rattle.tag_pool.specs.declared.pool.Pool.{Pool}
pub use Rattle.std.proofs.Math.Nat.{mul-le-mul_right, pow-suc}
pub use Rattle.std.proofs.lemmas.Grind.{get_or_default_zero}
pub use Rattle.std.proofs.lemmas.Nat.{and_le_r, div-add-mod', div_below, le-div, mod_below, one_shl, ones-le, ones_le_self, or_lt, pow_below, pow_pos, shr-shr, shr_le, shr_split, zero_from_ones}
pub use Rattle.std.specs.Prelude.{AllPairs, Contains}
pub use Rattle.sums.proofs.Laws.{sum_below-add, sum_below-same}
pub use Rattle.sums.specs.Below.{one_if, sum_below}
pub use Rattle.tag_layout.proofs.PlaceFacts.{tag_at-back, word_bits-le, word_bits-pos, word_of-tag_at}
pub use Rattle.tag_model.proofs.MaskFacts.{sum_below-bits}
pub use Rattle.tag_model.specs.Event.{is_in_mask}
pub use Rattle.tag_core.proofs.Picks.{among, among_one, one_among, only}
pub use Rattle.tag_core.proofs.TagBits.{among_else, among_here, among_small, only_among, only_is, place_small, small_word}
pub use Rattle.tag_core.specs.Holding.{IsInMask}
pub use Rattle.tag_core.specs.declared.word_step.WordStep.TheVariants.{Give}
pub use Rattle.tag_search.proofs.Claims.{count_ones-pow}
pub use Rattle.tag_search.proofs.SharedFacts.{count_ones-zero}
pub use Rattle.tag_search.specs.Follows.{ClearFollows}
pub use Rattle.tag_pool.specs.Runs.{AreRuns, AreTags, CountsTags, EndsElsewhere, GivesAll, HoldsOnce, record_after_runs, Run}
pub use Rattle.tag_pool.specs.Masks.{IsLastIn, mask_bit, set_bits, words_over}
pub use Rattle.tag_pool.specs.Lists.{AreHeldOnce, AreOrdinary}
