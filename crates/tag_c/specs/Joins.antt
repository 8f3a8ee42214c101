-- Which object a hand becomes that joins.
use Rattle.std.specs.Prelude.{◌++◌, ◌∷◌, ◌≡◌, ◌≤◌, ◌⊎◌}
use Rattle.tag_c.specs.Uses.{[], arc_value, Bool, false, Hand, hand_of, hint_of, IsTrue, keeping_of, KeepsNone, min, most_of, Pool, Set, ℕ}
use Rattle.tag_pool.specs.Hands.{caller_of, map_of}
use Rattle.tag_pool.specs.Lending.{side_of}
use Rattle.tag_pool.specs.Sides.{hint_in_part}
use Rattle.tag_c.specs.declared.object.Kind.{Kind}
use Rattle.tag_c.specs.declared.object.Kind.TheVariants.{Pool as IsPool, Member as IsMember, Cached as IsCached}
use Rattle.tag_c.specs.declared.pool.OpenPool.{OpenPool}
use Rattle.tag_c.specs.declared.structs.TheConstants.{MAX_CACHE}

-- the hand's next get in each set begins at the first tag of its own part of the set
abbrev pub BeginsInPart : Pool ℕ → Hand ℕ → Type 0
BeginsInPart tags hand = (kind : Set) → hint_of hand kind ≡ hint_in_part (map_of tags kind) (side_of hand kind)

-- everything but where the hand's gets begin is as before
abbrev pub SameButHint : Hand ℕ → Hand ℕ → Type 0
SameButHint old new = (kind : Set) → caller_of new kind ≡ caller_of old kind

-- the pool gives this hand, its last spare one or one that had left
abbrev pub Takes : OpenPool → Hand ℕ → OpenPool → Type 0
Takes old hand new = (new.shared ≡ old.shared)
    × ((old.spare.items ≡ new.spare.items ++ hand ∷ []) ⊎ (new.spare.items ≡ old.spare.items))

-- the pool gives this hand as it was, or if it is placed, with its gets beginning in its own part of the tags
pub record Gives (placed : Bool) (old new : OpenPool) (hand : Hand ℕ) : Type 0 where
  pub found : Hand ℕ
  pub takes : Takes old found new
  pub stays : placed ≡ false → hand ≡ found
  pub begins : IsTrue placed → BeginsInPart (arc_value old.shared).tags hand
  pub same : SameButHint found hand

-- a hand that the pool gives, and that belongs to it; it has a cache if the pool's hands keep tags, and keeps none yet
abbrev pub JoinsAs : Bool → OpenPool → OpenPool → Kind → Type 0
JoinsAs placed old new (IsMember member) = let state = arc_value old.shared in (arc_value member.shared ≡ state)
    × (state.cache.most ≡ 0) × Gives placed old new member.hand
JoinsAs placed old new (IsCached member) = let state = arc_value old.shared in (arc_value member.shared ≡ state)
    × (1 ≤ state.cache.most) × KeepsNone member.cache × (most_of member.cache ≡ min state.cache.most MAX_CACHE)
    × (keeping_of member.cache ≡ state.cache.keeping) × Gives placed old new (hand_of member.cache)
JoinsAs placed old new (IsPool pool) = ⊥
