-- The names that several proofs use, of the library, the crates below and the definitions here.
pub use Rattle.std.proofs.Common.{[], ap, append_assoc, arith, bit_xor, Bool, cond, count_ones, drop, drop-cons, eq-eqb, false, get_or, get_or-set_other, get_or-set_same, Global, IsTrue, length, length-append, length-set, length-take-le, List, map, ne_eqb, refl, replicate, rules, set, subst, suc}
pub use Rattle.std.proofs.Common.{sum, sym, take, true, true≢false, Vec, zero, ℕ, ⊎_elim, ◌∙◌}
pub use Rattle.std.proofs.Math.Nat.{mul-le-mul_right, pow-suc}
pub use Rattle.std.proofs.Math.Path.{fun_ext}
pub use Rattle.std.proofs.lemmas.List.{ext_get_or, get_or-replicate, get_or_past, get_or_read, length-replicate, take-append-drop, take_more, with_items_is}
pub use Rattle.std.proofs.lemmas.Nat.Bits.{bit_at-lt, bit_at-pow_other, bit_at-pow_same, bit_at-suc, bit_at_above, bit_at_lowest, bit_at_xor}
pub use Rattle.std.specs.Vec.{with_items}
pub use mathlib.Core.Logic.{dite}
pub use native.Mathlib.Decide.{ℕ_discrete}
pub use Rattle.sums.proofs.Laws.{le-sum_below, one_if-bit, sum-below, sum_below-add, sum_below-bound, sum_below-more, sum_below-none, sum_below-only, sum_below-same, sum_below-split, sum_below-window}
pub use Rattle.sums.specs.Below.{count_below, one_if, sum_below}
pub use Rattle.tag_layout.specs.Layout.{IsWithin, Layout, place_of, word_bits, word_depth, word_of, words}
pub use Rattle.tag_model.specs.Entries.{chosen, is_turned, KeptEntries, SamePlaces, Turns}
pub use Rattle.tag_model.specs.Event.{back_by, brings, caller_of, is_in_mask, IsInLayout, names, Needs, spilled_by, swept_by, won_by}
pub use Rattle.tag_model.specs.Kept.{AreAccepted, callers_of, Happens, IsInRoom, IsSound, KeptWorld, MovesTags, Ran, world_of}
pub use Rattle.tag_model.specs.Runs.{after_all, after_history, IsHistory, MayRun, StopsAt}
pub use Rattle.tag_model.specs.Totals.{AreTotals, Balances, held_in, is_held, is_posted, posted_in}
pub use Rattle.tag_model.specs.World.{after, IsFirstFault, MayHappen, opened, place_after, plus_at, World}
pub use Rattle.tag_model.specs.declared.event.Event.{Event}
pub use Rattle.tag_model.specs.declared.event.Event.TheVariants.{Give, Keep, Look, Post, Put, Spill, Sweep, Take, Win}
pub use Rattle.tag_model.specs.declared.place.Place.{Place}
pub use Rattle.tag_model.specs.declared.place.Place.TheVariants.{Aside, Free, Held, Posted}
