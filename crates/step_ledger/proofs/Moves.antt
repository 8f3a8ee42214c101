-- A rule that says where each member's record stands, and is otherwise silent on seats, holds as records pass from seat
-- to seat.
use Rattle.std.specs.Prelude.{◌∷◌, ◌≡◌}
use Rattle.step_ledger.proofs.Uses.{[], ap, both_views, first_view, Joins, List, other_views, own_view, set_else, some, Splits, State, subst, sym, View, viewing, ℕ, ◌∙◌}
use Rattle.step_ledger.proofs.Seats.{Standing, split, join}

module _ {S A : Type 0} (number : A → ℕ) (n : ℕ) (Rule : State S (View A) → Type 0)
    (Known : (s : State S (View A)) → Rule s → A → Type 0)
    (standing : (s : State S (View A)) (k : Rule s) → Standing number (Known s k) n s.views)
    (reseated : (s : State S (View A)) (k : Rule s) (views : List (View A)) → Standing number (Known s k) n views
    → Rule record { words = s.words; homes = s.homes; views = views }) where
  splits_from : (id : ℕ) (v : View A) (r : A) (rs : List A) → v ≡ viewing (r ∷ rs)
      → Splits Rule id v (viewing rs) (own_view r)
  splits_from id v r rs is s k at =
      reseated s k _ (split number (Known s k) n s.views (standing s k) id r rs (at ∙ ap some is))

  -- the first record goes to a new seat
  pub splits_first : (id : ℕ) (v : View A) (r : A) (rs : List A) → v ≡ viewing (r ∷ rs)
      → Splits Rule id v (other_views v) (first_view v)
  splits_first id v r rs is = subst (λ (z : View A × View A). Splits Rule id v z.0 z.1)
      (λ j. (ap other_views (sym is) j, ap first_view (sym is) j)) (splits_from id v r rs is)

  -- the other's records stand behind those of the first
  pub joins_behind : (id : ℕ) (v : View A) (other : ℕ) (w : View A)
      → Joins Rule id v other w (both_views v w) (viewing [])
  joins_behind id v other w s k at apart there = reseated s k _ (join number (Known s k) n s.views (standing s k) id other
      v w at (sym (set_else s.views id other (both_views v w) apart) ∙ there) apart)
