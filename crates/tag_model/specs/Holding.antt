-- How the tags that somebody holds change, with the values of their slots. Callers, agents, hands and the users of caches
-- hold tags, each in a way of its own; this is said once for all of them.
use Rattle.std.specs.Prelude.{ℕ, ◌≡◌, ◌⊎◌}

-- what it means that an owner holds a tag, and the value of a tag's slot
pub record Holding (Owner Value : Type 0) : Type 1 where
  pub holds : Owner → ℕ → Type 0
  pub slot : Owner → ℕ → Value

module _ {Owner Value : Type 0} (by : Holding Owner Value) where
  -- the named tags are no longer held; every other stays, with the value of its slot, and none joins
  pub record HoldsLess (named : ℕ → Type 0) (old new : Owner) : Type 0 where
    pub gone : (tag : ℕ) → named tag → ¬ (by.holds new tag)
    pub kept : (tag : ℕ) → ¬ (named tag) → by.holds old tag → by.holds new tag × (by.slot new tag ≡ by.slot old tag)
    pub none_else : (tag : ℕ) → by.holds new tag → by.holds old tag

  -- the named tags are held, and were not before; every other stays, with the value of its slot, and no other joins
  pub record HoldsMore (named : ℕ → Type 0) (old new : Owner) : Type 0 where
    pub fresh : (tag : ℕ) → named tag → ¬ (by.holds old tag)
    pub joined : (tag : ℕ) → named tag → by.holds new tag
    pub kept : (tag : ℕ) → by.holds old tag → by.holds new tag × (by.slot new tag ≡ by.slot old tag)
    pub none_else : (tag : ℕ) → by.holds new tag → by.holds old tag ⊎ named tag

  -- exactly the same tags are held, with the values of their slots
  pub record HoldsSame (old new : Owner) : Type 0 where
    pub kept : (tag : ℕ) → by.holds old tag → by.holds new tag × (by.slot new tag ≡ by.slot old tag)
    pub none_else : (tag : ℕ) → by.holds new tag → by.holds old tag
