-- Batches of tags over a cache.
use Rattle.std.specs.Prelude.{◌↔◌, ◌≡◌, ◌≢◌, ◌⊎◌}
use Rattle.tag_cache.specs.Uses.{All, AllPairs, Contains, count_ones, Hand, List, None, Option, Pool, Some, ℕ}
use Rattle.tag_cache.specs.declared.cache.Cache.{Cache}
use Rattle.tag_cache.specs.declared.keeping.Keeping.TheVariants.{WhileHolding}
use Rattle.tag_cache.specs.Caches.{IsKnown, KeepsNone, Holds, keeping_of, reused_of}
use Rattle.tag_cache.specs.Changes.{SameHand, SameTerms, KeepsSame}
use Rattle.tag_cache.specs.Windows.{IsIn}
use Rattle.tag_cache.specs.Clears.{GivesList, GivesKept}

-- how many tags an answer has: bit 0 of the mask is the first tag
abbrev pub answered_run : Option (ℕ × ℕ) → ℕ
answered_run None = 0
answered_run (Some won) = count_ones won.1

-- the user holds each tag of the list, and none is named twice
abbrev pub AreHeldOnce : {R : Type 0} → Cache R → List ℕ → Type 0
AreHeldOnce cache list = All (Holds cache) list × AllPairs (λ a b. a ≢ b) list

-- tags are kept only while the user is known to hold one, and it is known to hold none but those of the list
abbrev pub AreLast : {R : Type 0} → List ℕ → Cache R → Type 0
AreLast list cache = (keeping_of cache ≡ WhileHolding)
    × ((other : ℕ) → ¬ (Contains list other) → ¬ (IsKnown cache other))

-- tags are kept only while the user is known to hold one, and it is known to hold none of this mask of the window
abbrev pub LeavesNone : {R : Type 0} → ℕ → Cache R → Type 0
LeavesNone left cache = (keeping_of cache ≡ WhileHolding) × (left ≡ 0)

-- the kept tags may stay, and do; the user is known to hold those of this mask of the window
pub record GoesOn {R : Type 0} (left : ℕ) (old new : Cache R) : Type 0 where
  pub more : ¬ (LeavesNone left old)
  pub same : SameHand old new
  pub knows : (other : ℕ) → IsKnown new other ↔ IsIn old.first left other

-- the list went back, and the same tags are kept
pub record ListGoesAlone {R : Type 0} (pool : Pool R) (list : List ℕ) (old new : Cache R) : Type 0 where
  pub more : ¬ (AreLast list old)
  pub gives : GivesList pool list old.hand new.hand
  pub kept : KeepsSame old new

-- all kept tags went back together and then the list, so that nothing is kept any more
pub record GivesKeptAndList {R : Type 0} (pool : Pool R) (list : List ℕ) (old new : Cache R) : Type 0 where
  pub between : Hand R
  pub kept : GivesKept pool old old.hand between
  pub gives : GivesList pool list between new.hand
  pub none : KeepsNone new
  pub terms : SameTerms old new
  pub reused : reused_of new ≡ reused_of old

-- what becomes of a list of tags that is cleared: the kept ones go back first if none may be kept any more after it
abbrev pub ListGoes : {R : Type 0} → Pool R → List ℕ → Cache R → Cache R → Type 0
ListGoes pool list old new = ListGoesAlone pool list old new ⊎ (AreLast list old × GivesKeptAndList pool list old new)
