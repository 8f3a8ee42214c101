-- The effect of a get of one given tag on the cache that makes it.
use Rattle.std.specs.Prelude.{◌≡◌, ◌⊎◌}
use Rattle.tag_cache.specs.Uses.{Found, Hand, IfOk, IfSome, IsAnswer, kind_of, left_free, nobody, Option, Pool, RefusesBy, reserved_of, Result, Some, TagFault, told_by, Woken, ℕ}
use Rattle.tag_pool.specs.Exact as hands
use Rattle.tag_pool.specs.Gets as hand_gets
use Rattle.tag_cache.specs.declared.cache.Cache.{Cache}
use Rattle.tag_cache.specs.Caches.{hand_of, IsKept}
use Rattle.tag_cache.specs.Changes.{HandsOut, IsUnchanged, KeepsSame, SameWindow}
use Rattle.tag_cache.specs.Holding.{HoldsMore}
use Rattle.tag_cache.specs.Refusals.{exact_checks}
use Rattle.tag_cache.specs.Tallies.{answered, Tallies}

-- the tag was kept and is the answer, by no step
pub record WasKept {R : Type 0} (tag : ℕ) (answer : Option ℕ) (old new : Cache R) : Type 0 where
  pub answer_is : answer ≡ Some tag
  pub hands_out : HandsOut tag old new

-- the tag was not kept, and the hand made this get
pub record AsksPool {R : Type 0} (tag : ℕ) (Search : Hand R → Hand R → Type 0) (old new : Cache R) : Type 0 where
  pub other : ¬ (IsKept old tag)
  pub gets : Search old.hand new.hand
  pub same : KeepsSame old new
  pub window : SameWindow old new

-- the user gains this tag or none: from those that are kept, or by this get of the hand
pub record GetsBy {R : Type 0} (tag : ℕ) (Search : Hand R → Hand R → Type 0) (answer : Option ℕ) (old new : Cache R)
    : Type 0 where
  pub more : HoldsMore (IsAnswer answer) old new
  pub only : IfSome answer (λ won. won ≡ tag)
  pub source : WasKept tag answer old new ⊎ AsksPool tag Search old new

-- gets this tag if it is free, which a kept one is, and tells how many of its kind its sweeps left free
pub record DoesGetExactly {R : Type 0} (tag : ℕ) (pool : Pool R) (result : Result (Found ℕ) TagFault)
    (old new : Cache R) : Type 0 where
  pub refusals : RefusesBy (exact_checks pool tag old) (IsUnchanged old new) result
  pub gets : IfOk result (λ found. GetsBy tag (hands.GetsExactly pool tag found.answer) found.answer old new)
  pub left : IfOk result (λ found. found.left ≡ left_free (kind_of (reserved_of pool) tag) (hand_of old) (hand_of new))
  pub tally : IfOk result (λ found. Tallies (answered found.answer) 0 old new)

-- a get that sees to what it left free, and wakes those whom this told: nobody, if the tag was kept
pub record GetsAndLooks {R : Type 0} (tag : ℕ) (pool : Pool R) (answer : Option ℕ) (woken : Woken) (old new : Cache R)
    : Type 0 where
  pub gets : GetsBy tag (hand_gets.GetsAndLooks (kind_of (reserved_of pool) tag) (hands.GetsExactly pool tag answer) woken) answer old new
  pub quiet : IsKept old tag → told_by woken ≡ nobody
