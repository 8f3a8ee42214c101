-- How the tags that are kept change, and those that the user is known to hold.
use Rattle.std.specs.Prelude.{◌≡◌, ◌≢◌, ◌⊎◌, ◌↔◌, ℕ, ◌+◌, ◌≤◌, List, Contains}
use Rattle.tag_cache.specs.declared.cache.Cache.{Cache}
use Rattle.tag_cache.specs.Caches.{hand_of, count_of, most_of, keeping_of, reused_of, IsKept, IsKnown, IsWithin, KeepsNone}

-- as many tags may be kept, and when
pub record SameTerms {R : Type 0} (old new : Cache R) : Type 0 where
  pub most : most_of new ≡ most_of old
  pub keeping : keeping_of new ≡ keeping_of old

-- the same tags are kept, on the same terms, and none was handed out again
pub record KeepsSame {R : Type 0} (old new : Cache R) : Type 0 where
  pub kept : (tag : ℕ) → IsKept new tag ↔ IsKept old tag
  pub count : count_of new ≡ count_of old
  pub terms : SameTerms old new
  pub reused : reused_of new ≡ reused_of old

-- the window is where it was, and the user is known to hold the same tags
pub record SameWindow {R : Type 0} (old new : Cache R) : Type 0 where
  pub place : (tag : ℕ) → IsWithin new tag ↔ IsWithin old tag
  pub knows : (tag : ℕ) → IsKnown new tag ↔ IsKnown old tag

-- all fields but the hand are as they were
pub record SameFields {R : Type 0} (old new : Cache R) : Type 0 where
  pub first : new.first ≡ old.first
  pub kept : new.kept ≡ old.kept
  pub known : new.known ≡ old.known
  pub most : new.most ≡ old.most
  pub keeping : new.keeping ≡ old.keeping
  pub reused : new.reused ≡ old.reused

-- the hand is as it was, and so is what is kept
pub record SameHand {R : Type 0} (old new : Cache R) : Type 0 where
  pub hand : hand_of new ≡ hand_of old
  pub kept : KeepsSame old new

-- the hand is as it was, and so are what is kept and what the user is known to hold
pub record IsUnchanged {R : Type 0} (old new : Cache R) : Type 0 where
  pub hand : hand_of new ≡ hand_of old
  pub kept : KeepsSame old new
  pub window : SameWindow old new

-- the user is known to hold this tag besides those that it was known to hold, unless none was kept and the window moved
-- to it
pub record Learns {R : Type 0} (tag : ℕ) (old new : Cache R) : Type 0 where
  pub now : IsKnown new tag
  pub still : (KeepsNone old → IsWithin old tag) → (other : ℕ) → IsKnown old other → IsKnown new other
  pub none_else : (other : ℕ) → IsKnown new other → IsKnown old other ⊎ (other ≡ tag)

-- the user is known to hold the same tags but this one
abbrev pub KnowsLess : {R : Type 0} → ℕ → Cache R → Cache R → Type 0
KnowsLess tag old new = (other : ℕ) → IsKnown new other ↔ (IsKnown old other × other ≢ tag)

-- the user is known to hold the same tags but those of the list
abbrev pub KnowsNoneOf : {R : Type 0} → List ℕ → Cache R → Cache R → Type 0
KnowsNoneOf list old new = (other : ℕ) → IsKnown new other ↔ (IsKnown old other × ¬ (Contains list other))

-- it is no longer known that the user holds this tag, and nothing else changed
pub record Forgets {R : Type 0} (tag : ℕ) (old new : Cache R) : Type 0 where
  pub same : SameHand old new
  pub knows : KnowsLess tag old new

-- this kept tag is kept no more
pub record TakesKept {R : Type 0} (tag : ℕ) (old new : Cache R) : Type 0 where
  pub hand : hand_of new ≡ hand_of old
  pub terms : SameTerms old new
  pub was : IsKept old tag
  pub left : (other : ℕ) → IsKept new other ↔ (IsKept old other × other ≢ tag)
  pub fewer : count_of old ≡ count_of new + 1

-- this kept tag is kept no more, but handed to the user, once more than before
pub record HandsOut {R : Type 0} (tag : ℕ) (old new : Cache R) : Type 0 where
  pub takes : TakesKept tag old new
  pub learns : Learns tag old new
  pub reused : reused_of new ≡ reused_of old + 1

-- the same of the least kept tag
pub record Reuses {R : Type 0} (tag : ℕ) (old new : Cache R) : Type 0 where
  pub hands_out : HandsOut tag old new
  pub least : (other : ℕ) → IsKept old other → tag ≤ other

-- this tag is kept besides the others, on the same terms, and none was handed out again
pub record KeepsAlso {R : Type 0} (tag : ℕ) (old new : Cache R) : Type 0 where
  pub now : IsKept new tag
  pub still : (other : ℕ) → IsKept old other → IsKept new other
  pub none_else : (other : ℕ) → IsKept new other → IsKept old other ⊎ (other ≡ tag)
  pub more : count_of new ≡ count_of old + 1
  pub terms : SameTerms old new
  pub reused : reused_of new ≡ reused_of old

-- this tag is kept besides, and the hand is as it was
pub record Keeps {R : Type 0} (tag : ℕ) (old new : Cache R) : Type 0 where
  pub hand : hand_of new ≡ hand_of old
  pub also : KeepsAlso tag old new
  pub knows : KnowsLess tag old new

-- this tag alone is kept now, on the same terms, and none was handed out again
pub record KeepsOnly {R : Type 0} (tag : ℕ) (old new : Cache R) : Type 0 where
  pub only : (other : ℕ) → IsKept new other ↔ (other ≡ tag)
  pub one : count_of new ≡ 1
  pub terms : SameTerms old new
  pub reused : reused_of new ≡ reused_of old
