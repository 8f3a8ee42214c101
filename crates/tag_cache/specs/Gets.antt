-- The effect of gets on the cache that makes them.
use Rattle.std.specs.Prelude.{◌≡◌, ◌⊎◌}
use Rattle.tag_cache.specs.Uses.{Hand, IsAnswer, IsTagIn, None, nobody, Option, Ordinary, Pool, Some, told_by, Woken, ℕ}
use Rattle.tag_pool.specs.Gets as hands
use Rattle.tag_cache.specs.declared.cache.Cache.{Cache}
use Rattle.tag_cache.specs.Caches.{KeepsNone}
use Rattle.tag_cache.specs.Changes.{KeepsSame, SameWindow, Learns, Reuses}
use Rattle.tag_cache.specs.Holding.{HoldsMore}

-- the answer is the least kept tag, by no step
pub record FromKept {R : Type 0} (answer : Option ℕ) (old new : Cache R) : Type 0 where
  pub tag : ℕ
  pub answer_is : answer ≡ Some tag
  pub reuses : Reuses tag old new

-- nothing was kept, and the hand made this get
pub record FromPool {R : Type 0} (Search : Hand R → Hand R → Type 0) (old new : Cache R) : Type 0 where
  pub none : KeepsNone old
  pub gets : Search old.hand new.hand
  pub same : KeepsSame old new

-- the user gains the ordinary tag returned, if there is one, and no other: the least kept one, or by this get of the
-- hand if none is kept
pub record GetsBy {R : Type 0} (Search : Hand R → Hand R → Type 0) (pool : Pool R) (answer : Option ℕ)
    (old new : Cache R) : Type 0 where
  pub more : HoldsMore (IsAnswer answer) old new
  pub ordinary : (tag : ℕ) → IsAnswer answer tag → IsTagIn pool Ordinary tag
  pub source : FromKept answer old new ⊎ FromPool Search old new

-- a get that tells nobody
abbrev pub Gets : {R : Type 0} → Pool R → Option ℕ → Cache R → Cache R → Type 0
Gets pool answer = GetsBy (hands.Gets pool Ordinary answer) pool answer

-- a get that sees to what it left free, and wakes those whom this told: nobody, if the tag was kept
pub record GetsAndLooks {R : Type 0} (pool : Pool R) (answer : Option ℕ) (woken : Woken) (old new : Cache R) : Type 0 where
  pub gets : GetsBy (hands.GetsAndLooks Ordinary (hands.Gets pool Ordinary answer) woken) pool answer old new
  pub quiet : ¬ (KeepsNone old) → told_by woken ≡ nobody

-- the user is known to hold the tag returned, if there is one, and otherwise what it was known to hold
abbrev pub LearnsAnswer : {R : Type 0} → Option ℕ → Cache R → Cache R → Type 0
LearnsAnswer None old new = SameWindow old new
LearnsAnswer (Some tag) old new = Learns tag old new
