-- That a caller belongs to some tags has at most one proof, so a stage may keep it.
use Rattle.std.specs.Prelude.{List, All}
use lib.ListN.{get_or}

-- whether a caller belongs to some tags has at most one proof
abbrev pub IsFact : {T C : Type 0} → (T → C → Type 0) → Type 0
IsFact {T} {C} own = (tags : T) (caller : C) → IsProp (own tags caller)

-- nor has it more than one that each caller of a list does
pub All-fact : {T C : Type 0} (own : T → C → Type 0) → IsFact own → (tags : T) (callers : List C)
    → IsProp (All (own tags) callers)
All-fact own is tags callers f g = λ i k c low. is tags (get_or callers k c) (f k c low) (g k c low) i
