-- How the tags that a caller holds change.
use Rattle.tag_core.specs.Uses.{is_in_mask, IsTrue, Layout, ℕ}
use mathlib.Core.Option as maybe
use Rattle.tag_model.specs.Holding.{Holding}
use Rattle.tag_model.specs.Holding as holding
use Rattle.tag_core.specs.declared.caller.Caller.{Caller}
use Rattle.tag_core.specs.Callers.{Holds, slot_of}

-- the tag's bit in this mask of this word is 1
abbrev pub IsInMask : Layout → ℕ → ℕ → ℕ → Type 0
IsInMask l word mask tag = IsTrue (is_in_mask l word mask tag)

-- how a caller holds tags
abbrev pub by_caller : {R : Type 0} → Holding (Caller R) (maybe.Option R)
by_caller = record { holds = Holds; slot = slot_of }

-- the caller no longer holds the named tags; it keeps every other tag with the value of its slot, and gains none
abbrev pub HoldsLess : {R : Type 0} → (ℕ → Type 0) → Caller R → Caller R → Type 0
HoldsLess = holding.HoldsLess by_caller

-- the caller holds the named tags, which it did not hold before; it keeps every other tag with the value of its slot,
-- and gains no other
abbrev pub HoldsMore : {R : Type 0} → (ℕ → Type 0) → Caller R → Caller R → Type 0
HoldsMore = holding.HoldsMore by_caller

-- the caller holds exactly the tags that it held, with the values of their slots
abbrev pub HoldsSame : {R : Type 0} → Caller R → Caller R → Type 0
HoldsSame = holding.HoldsSame by_caller
