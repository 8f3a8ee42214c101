-- Callers with lower numbers are on the new map with fresh records, the others are as they were, and the seat that is left has
-- the records of those still to come.
use Rattle.std.specs.Prelude.{◌+◌, ◌-◌, ◌<◌, ◌≡◌, ◌≤◌}
use Rattle.tag_core.proofs.Uses.{[], All, Caller, fresh, get_elem?, IsCallerOf, length, record_of, reopened_record, replicate, some, viewing, words, ℕ}
use Rattle.tag_core.proofs.reopens.reseat_all.Given as goal

abbrev pub invariant-loop-number : goal.invariant-loop-number
invariant-loop-number g l = record {
  seat : l.rest.table_id ≡ l.tags.table.shared.table_id;
  rest : l.rest.me ≡ (viewing (fresh l.tags.shape l.number (l.tags.shape.callers - l.number)), []);
  left : length l.masks.items + l.number ≡ l.tags.shape.callers;
  blank : All (λ m. m.items ≡ replicate (words l.tags.shape.layout) 0) l.masks.items;
  long : length l.callers.items ≡ length l.fn.callers.items;
  gone : (j : ℕ) (a b : Caller g.row.R.Denot) → get_elem? l.fn.callers.items j ≡ some a
      → get_elem? l.callers.items j ≡ some b
      → a.number < l.number → IsCallerOf l.tags b × (record_of b ≡ reopened_record l.tags.shape (record_of a));
  stays : (j : ℕ) (a b : Caller g.row.R.Denot) → get_elem? l.fn.callers.items j ≡ some a
      → get_elem? l.callers.items j ≡ some b
      → l.number ≤ a.number → b ≡ a;
}
