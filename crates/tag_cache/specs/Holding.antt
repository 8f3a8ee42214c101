-- How the tags that the user of a cache holds change, and the values of their slots.
use Rattle.std.specs.Prelude.{◌≡◌, ◌≢◌}
use mathlib.Core.Option as maybe
use Rattle.tag_model.specs.Holding.{Holding}
use Rattle.tag_model.specs.Holding as holding
use Rattle.tag_cache.specs.Uses.{Hand, some, ℕ}
use Rattle.tag_pool.specs.Hands as hands
use Rattle.tag_cache.specs.declared.cache.Cache.{Cache}
use Rattle.tag_cache.specs.Caches.{Holds, slot_of}

-- how the user of a cache holds tags
abbrev pub by_user : {R : Type 0} → Holding (Cache R) (maybe.Option R)
by_user = record { holds = Holds; slot = slot_of }

-- the user no longer holds the named tags; the user keeps every other tag with the value of its slot, and gains none
abbrev pub HoldsLess : {R : Type 0} → (ℕ → Type 0) → Cache R → Cache R → Type 0
HoldsLess = holding.HoldsLess by_user

-- the user holds the named tags, and did not hold them before; the user keeps every other tag with the value of its
-- slot, and gains no other
abbrev pub HoldsMore : {R : Type 0} → (ℕ → Type 0) → Cache R → Cache R → Type 0
HoldsMore = holding.HoldsMore by_user

-- the user holds exactly the tags held before, with the values of their slots
abbrev pub HoldsSame : {R : Type 0} → Cache R → Cache R → Type 0
HoldsSame = holding.HoldsSame by_user

-- the tag's slot has the value; the user holds the same tags, and their other slots are unchanged
pub record Writes {R : Type 0} (tag : ℕ) (value : R) (old new : Cache R) : Type 0 where
  pub put : slot_of new tag ≡ some value
  pub others : (other : ℕ) → Holds old other → other ≢ tag → slot_of new other ≡ slot_of old other
  pub kept : (other : ℕ) → Holds old other → Holds new other
  pub none_else : (other : ℕ) → Holds new other → Holds old other

-- the hand holds exactly what the user of the cache held, with the values of the slots
pub record IsLeftWith {R : Type 0} (cache : Cache R) (hand : Hand R) : Type 0 where
  pub kept : (tag : ℕ) → Holds cache tag → hands.Holds hand tag × (hands.slot_of hand tag ≡ slot_of cache tag)
  pub none_else : (tag : ℕ) → hands.Holds hand tag → Holds cache tag
