-- How the tags that a hand holds change, and the values of their slots.
use Rattle.std.specs.Prelude.{ℕ, ◌≡◌}
use mathlib.Core.Option as maybe
use Rattle.tag_model.specs.Holding.{Holding}
use Rattle.tag_model.specs.Holding as holding
use Rattle.tag_pool.specs.declared.hand.Hand.{Hand}
use Rattle.tag_pool.specs.declared.kind.Kind.{Kind}
use Rattle.tag_pool.specs.Lending.{side_of}
use Rattle.tag_pool.specs.Sides as side
use Rattle.tag_pool.specs.Hands.{Holds, slot_of, split_of}

-- how a hand holds tags
abbrev pub by_hand : {R : Type 0} → Holding (Hand R) (maybe.Option R)
by_hand = record { holds = Holds; slot = slot_of }

-- the hand no longer holds the named tags; it keeps every other tag with the value of its slot, and gains none
abbrev pub HoldsLess : {R : Type 0} → (ℕ → Type 0) → Hand R → Hand R → Type 0
HoldsLess = holding.HoldsLess by_hand

-- the hand holds the named tags, which it did not hold before; it keeps every other tag with the value of its slot,
-- and gains no other
abbrev pub HoldsMore : {R : Type 0} → (ℕ → Type 0) → Hand R → Hand R → Type 0
HoldsMore = holding.HoldsMore by_hand

-- the hand holds exactly the tags that it held, with the values of their slots
abbrev pub HoldsSame : {R : Type 0} → Hand R → Hand R → Type 0
HoldsSame = holding.HoldsSame by_hand

-- the hand is unchanged: its tags with their slots, and in each set its own steps and everything else
pub record IsUnchanged {R : Type 0} (old new : Hand R) : Type 0 where
  pub same : HoldsSame old new
  pub sets : (kind : Kind) → side.IsUnchanged (side_of old kind) (side_of new kind)
  pub split : split_of new ≡ split_of old
