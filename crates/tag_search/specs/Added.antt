-- The steps that a call adds through a port.
use Rattle.std.specs.Prelude.{◌↔◌}
use Rattle.tag_search.specs.Uses.{List, WordStep, ℕ}

-- the port made some steps between the two states, and the fact holds of them
pub record AddsSteps {Port : Type 0} (adds : Port → List WordStep → Port → Type 0) (old new : Port) (fact : List WordStep
    → Type 0) : Type 0 where
  pub steps : List WordStep
  pub added : adds old steps new
  pub holds : fact steps

-- the room for tags is unchanged
abbrev pub SameRoom : {Port : Type 0} → (Port → ℕ → Type 0) → Port → Port → Type 0
SameRoom room old new = (n : ℕ) → room old n ↔ room new n
