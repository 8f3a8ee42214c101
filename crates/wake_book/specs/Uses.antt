-- The names that several definitions use, of the library and the crates below.
pub use Rattle.std.specs.Prelude.{[], All, cond, length, List, map, min, nat_eq, None, Option, replicate, slice_index, slice_set, Some, suc, sum, zero, ℕ}
pub use Rattle.atomic_table.specs.Table.{Me, State}
pub use Rattle.step_ledger.specs.History.{AreListsOf, Lawful, own_steps, total, words_left}
pub use Rattle.step_ledger.specs.Ledger.{Ledger}
pub use Rattle.step_ledger.specs.Records.{fresh, Records, Stepped, steps_of, still_to_come, sum_over}
pub use Rattle.step_ledger.specs.Views.{viewing}
pub use Rattle.step_ledger.specs.declared.record.Record.{Record}
pub use Rattle.sums.specs.Below.{one_if, sum_below}
