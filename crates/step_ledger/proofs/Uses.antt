-- The names that several proofs use, of the library, the crates below and the definitions here.
pub use Rattle.std.proofs.Common.{[], All, ap, arith, below_more, Bool, cond, eq-eqb, get_or, inl, inr, length, length-append, List, map, nat_eq, ne_eqb, refl, set, subst, suc, sym, zero, ℕ, ⊎_elim, ◌∙◌}
pub use mathlib.Core.Option.{some, some-injective, some-ne-none}
pub use lib.ListN.{get_elem?}
pub use Rattle.atomic_table.proofs.Lists.{at_index, at_longer, at_map, at_set, set_else, set_here}
pub use Rattle.atomic_table.specs.Table.{Allows, Final, Joins, keeps, Me, opening, Seen, Splits, State}
pub use Rattle.step_ledger.specs.Gather.{AreNumbered, Has, HasAll, IsLeastMissing, turned}
pub use Rattle.step_ledger.specs.History.{AreListsOf, Lawful, own_steps, total, total_all, words_left}
pub use Rattle.step_ledger.specs.Ledger.{Ledger}
pub use Rattle.step_ledger.specs.Records.{fresh, fresh_record, numbers, push, Records, Stepped, steps_of, still_to_come, sum_over, with_step}
pub use Rattle.step_ledger.specs.Views.{both_views, EachStands, first_view, other_views, own_view, records_from, viewing}
pub use Rattle.step_ledger.specs.declared.record.Record.{Record}
pub use Rattle.step_ledger.specs.declared.record.View.{View}
pub use Rattle.sums.proofs.Laws.{sum_below-first, sum_below-more, sum_below-turned, sum_below-zero}
pub use Rattle.sums.specs.Below.{sum_below}
