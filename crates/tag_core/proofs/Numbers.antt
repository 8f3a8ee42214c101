-- Records by the numbers of their callers.
use Rattle.std.specs.Prelude.{◌∷◌, ◌≡◌}
use Rattle.tag_core.proofs.Uses.{[], ap, Caller, List, map, numbers, numbers_of, record_of, refl, ℕ}

module _ {R : Type 0} where
  -- callers' records have their numbers
  pub numbers-records : (callers : List (Caller R)) → numbers (map record_of callers) ≡ numbers_of callers
  numbers-records [] = refl
  numbers-records (c ∷ callers) = ap (λ (ns : List ℕ). c.number ∷ ns) (numbers-records callers)
