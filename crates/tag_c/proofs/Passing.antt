-- A call all of whose checks pass is answered.
use Rattle.std.specs.Prelude.{◌≡◌, ◌∷◌}
use Rattle.tag_c.proofs.Uses.{[], Checks, Err, FailsFirst, inl, inr, Ok, PassesAll, refl, RefusesBy, Result, TagFault, ℕ}

-- where all checks pass none fails
pub unfailed : (checks : Checks TagFault) (fault : TagFault) → PassesAll checks → ¬ (FailsFirst checks fault)
unfailed [] fault passes fails = fails
unfailed ((check, known) ∷ later) fault passes (inl fails) = fails.0 passes.0
unfailed ((check, known) ∷ later) fault passes (inr fails) = unfailed later fault passes.1 fails.1

-- so the call is answered
pub answered : (checks : Checks TagFault) {same : Type 0} (answer : Result ℕ TagFault) → PassesAll checks
    → RefusesBy checks same answer → (found : ℕ) × (answer ≡ Ok found)
answered checks (Ok found) passes refusals = (found, refl)
answered checks (Err fault) passes refusals = absurd (unfailed checks fault passes refusals.first)
