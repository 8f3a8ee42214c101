-- Who holds tags through a handle: a hand alone, or a hand with a cache, whose user holds what is not kept.
use Rattle.std.specs.Prelude.{◌≡◌}
use Rattle.tag_c.specs.Uses.{Hand, ℕ}
use mathlib.Core.Option as maybe
use Rattle.tag_pool.specs.Hands as hands
use Rattle.tag_cache.specs.declared.cache.Cache.{Cache}
use Rattle.tag_cache.specs.Caches as caches
use Rattle.tag_cache.specs.Changes as changes

-- a hand alone, or a hand with a cache
pub data Holder : Type 0 where
  Bare : (hand : Hand ℕ) → Holder
  Caching : (cache : Cache ℕ) → Holder

-- the hand that makes the holder's steps
abbrev pub hand_of : Holder → Hand ℕ
hand_of (Bare hand) = hand
hand_of (Caching cache) = caches.hand_of cache

-- the holder holds the tag; a kept tag is held by the hand alone
abbrev pub Holds : Holder → ℕ → Type 0
Holds (Bare hand) tag = hands.Holds hand tag
Holds (Caching cache) tag = caches.Holds cache tag

-- the tag is kept; a hand alone keeps none
abbrev pub IsKept : Holder → ℕ → Type 0
IsKept (Bare hand) tag = ⊥
IsKept (Caching cache) tag = caches.IsKept cache tag

-- the value in the slot of a tag, if the hand holds it
abbrev pub slot_of : Holder → ℕ → maybe.Option ℕ
slot_of holder tag = hands.slot_of (hand_of holder) tag

-- the first relation between two hands alone, the second between two caches, and none between one and the other
abbrev pub Either : (Hand ℕ → Hand ℕ → Type 0) → (Cache ℕ → Cache ℕ → Type 0) → Holder → Holder → Type 0
Either bare caching (Bare old) (Bare new) = bare old new
Either bare caching (Caching old) (Caching new) = caching old new
Either bare caching _ _ = ⊥

-- the hand did nothing, and the same tags are kept
abbrev pub IsUnchanged : Holder → Holder → Type 0
IsUnchanged = Either (λ old new. new ≡ old) changes.IsUnchanged
