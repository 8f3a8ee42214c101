-- The names that several definitions use, of the library and the crates below.
pub use Rattle.std.specs.Int.{bit_at, trailing_zeros, w64}
pub use Rattle.std.specs.Prelude.{[], bit_and, bit_or, cond, IsTrue, length, List, map, nat_eq, None, replicate, slice_index, slice_set, Some, suc, zero, ℕ}
pub use mathlib.Core.Option.{none, some}
pub use lib.ListN.{get_elem?}
pub use Rattle.atomic_table.specs.Table.{Me, State}
pub use Rattle.step_ledger.specs.Views.{EachStands, own_view, records_from, viewing}
pub use Rattle.sums.specs.Below.{one_if, sum_below}
pub use Rattle.tag_layout.specs.Layout.{IsWithin, Layout, place_of, tag_at, word_of, words}
pub use Rattle.tag_model.specs.Event.{back_by, is_in_mask, won_by}
pub use Rattle.tag_model.specs.Totals.{AreTotals, back_in, got_in, held_in, posted_in}
pub use Rattle.tag_model.specs.declared.place.Place.{Place}
pub use Rattle.tag_model.specs.declared.place.Place.TheVariants.{Aside, Free, Held, Posted, Sweep}
pub use Rattle.tag_model.specs.declared.totals.Totals.{Totals}
pub use Rattle.tag_model.specs.declared.world.TheConstants.{MOST_WON}
