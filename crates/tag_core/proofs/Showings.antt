-- One history shows a record that stands alone in its view.
use Rattle.std.specs.Prelude.{◌≡◌}
use Rattle.tag_core.proofs.Uses.{get_elem?, HasHistory, own_view, Record, refl, Shape, Shown, some, State, View, ℕ}

-- the history of the table shows the record
pub seen_in : (R : Type 0) (k : Shape) (s : State R (View R)) → Shown k s → (id : ℕ) (r : Record R)
    → get_elem? s.views id ≡ some (own_view r) → HasHistory k r
seen_in R k s sh id r at = record {
  history = sh.history;
  lawful = sh.lawful;
  known = (sh.records id (own_view r) at 0 r refl).0;
  tags = sh.tags;
  word_within = sh.cells.word_within;
  aside_within = sh.cells.aside_within;
}
