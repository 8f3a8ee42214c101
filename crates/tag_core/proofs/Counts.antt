-- The record of a caller after its step, beside the world after the event.
use Rattle.std.specs.Prelude.{◌+◌, ◌∷◌, ◌≡◌, ◌≢◌}
use Rattle.tag_core.proofs.Uses.{arith, back_by, caller_of, eq-eqb, event_of, held_after, History, Layout, length, length-set, List, ne_eqb, plus_at, plus_at-else, plus_at-here, plus_at-none, Step, steps_by, swept_after, won_by, ℕ}

module _ {R : Type 0} (l : Layout) (c : ℕ) where
  -- what a step adds to its caller's counts
  pub own_counts : (st : Step R) (g : ℕ → ℕ) → let e = event_of l c st in
      (plus_at (caller_of e) (won_by e) g c ≡ g c + won_by e)
      × (plus_at (caller_of e) (back_by e) g c ≡ g c + back_by e)
  own_counts st g = grind (arith, plus_at-here, plus_at-none)

  -- a step adds nothing to another caller's counts
  pub other_counts : (st : Step R) (a : ℕ) → a ≢ c → (g : ℕ → ℕ) → let e = event_of l c st in
      (plus_at (caller_of e) (won_by e) g a ≡ g a) × (plus_at (caller_of e) (back_by e) g a ≡ g a)
  other_counts st a far g = grind (arith, plus_at-else, plus_at-none)

  -- a step heads its caller's own list
  pub steps_here : (st : Step R) (h : History R) → steps_by c ((c, st) ∷ h) ≡ st ∷ steps_by c h
  steps_here st h = grind (arith, eq-eqb)

  -- a step stands in no other caller's list
  pub steps_else : (a : ℕ) (st : Step R) (h : History R) → a ≢ c → steps_by a ((c, st) ∷ h) ≡ steps_by a h
  steps_else a st h n = grind (arith, ne_eqb)

  -- a step leaves the number of held masks
  pub held_long : (st : Step R) (m : List ℕ) → length (held_after l st m) ≡ length m
  held_long st m = grind (arith, length-set)

  -- a step leaves the number of sweep masks
  pub swept_long : (st : Step R) (m : List ℕ) → length (swept_after st m) ≡ length m
  swept_long st m = grind (arith, length-set)
