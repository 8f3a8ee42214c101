-- What all steps of a history add up to, summed member by member.
use Rattle.std.specs.Prelude.{◌+◌, ◌∷◌, ◌≡◌}
use Rattle.step_ledger.proofs.Uses.{[], ap, Lawful, List, own_steps, sum_below, sum_below-more, sum_below-zero, total, total_all, ℕ, ◌∙◌}
use Rattle.step_ledger.proofs.Members.{own_here, own_else}

module _ {T : Type 0} (n : ℕ) (MayStep : ℕ → T → List (ℕ × T) → Type 0) where
  -- what all steps add up to is the sum over the members
  pub totals : (f : T → ℕ) (h : List (ℕ × T)) → Lawful n MayStep h
      → sum_below (λ c. total f (own_steps c h)) n ≡ total_all f h
  totals f [] l = sum_below-zero n
  totals f (x ∷ h) l =
      sum_below-more (λ c. total f (own_steps c h)) (λ c. total f (own_steps c (x ∷ h))) x.0 (f x.1) n l.0
      (ap (total f) (own_here x.0 x.1 h)) (λ d ne. ap (total f) (own_else d x.0 x.1 h ne))
      ∙ ap (λ (z : ℕ). f x.1 + z) (totals f h l.2)
