-- Records move between the seats of a map's table.
use Rattle.std.specs.Prelude.{◌<◌, ◌∷◌, ◌≡◌}
use Rattle.tag_core.proofs.Uses.{[], both_views, first_view, Joins, List, Map, other_views, Record, Shape, Shown, Splits, subst, sym, View, viewing, ℕ}
use Rattle.tag_core.proofs.Passing.{hands_first, joins}
use Rattle.tag_core.proofs.Stand.{some_width}

module _ {R : Type 0} (m : Map R) where
  -- the table has a word
  pub some_words : 0 < m.table.shared.table_id.words
  some_words = subst (λ (z : ℕ). 0 < z) (sym m.wide.0) (some_width m.shape.layout)

  -- a seat's first record may leave it
  pub splits_off : (id : ℕ) (v : View R) (r : Record R) (rs : List (Record R)) → v ≡ viewing (r ∷ rs)
      → Splits (Shown m.table.shared.key) id v (other_views v) (first_view v)
  splits_off id v r rs is =
      subst (λ (z : Shape). Splits (Shown z) id v (other_views v) (first_view v)) (sym m.told)
      (hands_first R m.shape id v r rs is)

  -- a seat may take in the records of another
  pub joins_in : (id : ℕ) (v : View R) (other : ℕ) (w : View R)
      → Joins (Shown m.table.shared.key) id v other w (both_views v w) (viewing [])
  joins_in id v other w =
      subst (λ (z : Shape). Joins (Shown z) id v other w (both_views v w) (viewing [])) (sym m.told)
      (joins R m.shape id v other w)
