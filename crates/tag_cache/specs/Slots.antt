-- How tags pass on from the users of caches.
use Rattle.std.specs.Prelude.{◌≡◌}
use Rattle.tag_cache.specs.Uses.{Hand, Pool, ℕ}
use Rattle.tag_pool.specs.Slots as hands
use Rattle.tag_cache.specs.declared.cache.Cache.{Cache}
use Rattle.tag_cache.specs.Caches.{IsLast, KeepsNone, hand_of}
use Rattle.tag_cache.specs.Changes.{KeepsSame, KnowsLess, SameTerms}
use Rattle.tag_cache.specs.Clears.{GivesKept}
use Rattle.tag_cache.specs.Holding.{HoldsLess}

-- the hand gave all kept tags back together, and then posted this tag with this note
pub record PostsLast {R : Type 0} (pool : Pool R) (tag note : ℕ) (old new : Cache R) : Type 0 where
  pub between : Hand R
  pub gives : GivesKept pool old (hand_of old) between
  pub posts : hands.Posts tag note between (hand_of new)

-- the hand posted this tag with this note, the tag is the user's no more, and the same tags are kept
pub record PassesAlone {R : Type 0} (tag note : ℕ) (old new : Cache R) : Type 0 where
  pub less : HoldsLess (λ other. other ≡ tag) old new
  pub posts : hands.Posts tag note (hand_of old) (hand_of new)
  pub kept : KeepsSame old new
  pub knows : KnowsLess tag old new

-- this tag is the user's no more; the hand only posted it with this note, unless it was the last one known, and then none is
-- kept
pub record Passes {R : Type 0} (tag note : ℕ) (old new : Cache R) : Type 0 where
  pub less : HoldsLess (λ other. other ≡ tag) old new
  pub posts : ¬ (IsLast tag old) → hands.Posts tag note (hand_of old) (hand_of new)
  pub kept : ¬ (IsLast tag old) → KeepsSame old new
  pub last : IsLast tag old → KeepsNone new
  pub terms : SameTerms old new
  pub knows : KnowsLess tag old new
