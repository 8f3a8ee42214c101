-- The names that several proofs use, of the library, the crates below and the definitions here.
pub use Rattle.std.proofs.Common.{[], ap, append_assoc, arith, bit_and, bit_or, Bool, cond, count_ones, eq-eqb, false, inl, inr, IsTrue, length-append, List, max, min, nat_eq, ne_eqb, not, refl, subst, suc, sym, true, zero, ℕ, ⊎_elim, ◌∙◌}
pub use Rattle.std.proofs.lemmas.Nat.{and_comm, and_mask, le_or_l, le_or_r, leading_length, one_shl, ones-le, or_lt, pow_pos, zero_from_ones}
pub use Rattle.std.proofs.lemmas.Nat.Bits.{and_pow, bit_at-lt, bit_at-pow_other, bit_at-pow_same, bit_at-suc, bit_at-zero, bit_at_above, bit_at_and, bit_at_lowest, bit_at_ones, bit_at_or, same_from_bits, shr_and_one}
pub use Rattle.std.specs.Int.{bit_at}
pub use Rattle.std.specs.Int.Bits.{or_step, or_zero_l, or_zero_r}
pub use mathlib.Core.Logic.{dite}
pub use native.Mathlib.Decide.{dec_le, ℕ_discrete}
pub use Rattle.tag_layout.specs.Layout.{Layout, place_of, word_depth, word_of, words}
pub use Rattle.tag_core.proofs.Masks.{bit_minus, ones_and, take_bits}
pub use Rattle.tag_model.specs.declared.world.TheConstants.{MAX_CALLERS}
pub use Rattle.tag_core.specs.Callers.{Adds, Holds, IsCallerOf, IsUnchanged, layout_of, record_of, SameMap}
pub use Rattle.tag_core.specs.Histories.{cells_after, cells_of, EachFinds, FindsIn, History, steps_by}
pub use Rattle.tag_core.specs.Holding.{HoldsSame}
pub use Rattle.tag_core.specs.Steps.{changed_at, Finds, without, Words, words_after}
pub use Rattle.tag_core.specs.declared.bell_step.BellStep.{BellStep}
pub use Rattle.tag_core.specs.declared.bell_step.BellStep.TheVariants.{Enlist, Enter, GetUp, Leave, LookAll, LookAt, TakeTurn, Tell}
pub use Rattle.tag_core.specs.Berths.{IsListed, IsListedAs, IsTold, IsUp, same_waiter, told_as}
pub use Rattle.tag_core.specs.Waits.{AgreesWith, HasTaken, IsBy, IsIn, newly_told, waits_as, with_berth}
pub use Rattle.tag_core.specs.declared.berth.Berth.{Berth}
pub use Rattle.tag_core.specs.declared.berth.Berth.TheVariants.{Listed, Told, Up}
pub use Rattle.tag_core.specs.declared.berth.TheConstants.{TURNS}
pub use Rattle.tag_core.specs.declared.berth.Waiter.{Waiter}
pub use Rattle.tag_core.specs.declared.berth.Waiter.TheVariants.{Listener, Sleeper}
pub use Rattle.tag_core.specs.declared.caller.Caller.{Caller}
pub use Rattle.tag_core.specs.declared.record.Record.{Record}
pub use Rattle.tag_core.specs.declared.shape.Shape.{Shape}
pub use Rattle.tag_core.specs.declared.step.Step.{Step}
pub use Rattle.tag_core.specs.declared.step.Step.TheVariants.{Bell, Post, ReadNote, Take, Word}
pub use Rattle.tag_core.specs.declared.word_step.WordStep.{WordStep}
pub use Rattle.tag_core.specs.declared.word_step.WordStep.TheVariants.{Claimed, Give, Keep, Look, LookAside, Put, Spill, Swap}
pub use Rattle.tag_bell.specs.Callers.{OwesNothing, WaitsAsBefore}
pub use Rattle.tag_bell.specs.Calls.{nobody, OnlyAdds, OwesNoneWhere, Tells, told_in}
pub use Rattle.tag_bell.specs.Looks.{SawFree, SeesFree}
pub use Rattle.tag_bell.specs.Safety.{berth_after, EachStateIsSafe, IsAsleep, IsFreeAt, IsOnTheWay, IsOpen, NobodyForgotten, NobodyIsForgotten, NobodyRestsBesideATag, NoneFreeAtRest, NoTagForgotten, NoTagIsForgotten, SomebodyComes}
pub use Rattle.tag_bell.specs.Telling.{AreInTurn, IsDoneWith, IsInRound, TellsInTurn, TellsMost}
pub use Rattle.tag_bell.specs.Waiting.{in_aside, in_word, IsCleared, Opens, Owes, Saw, Shuts, Tried}
pub use Rattle.tag_bell.specs.declared.spot.Spot.{Spot}
