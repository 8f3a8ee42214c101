-- Gets of several ordinary tags over a cache in one call, which takes all of them or none.
use Rattle.std.specs.Prelude.{◌<◌, ◌≡◌}
use Rattle.tag_cache.specs.Uses.{Bool, Contains, false, IfOk, length, List, Pool, RefusesBy, Result, TagFault, true, ℕ}
use Rattle.tag_pool.specs.Many as hands
use Rattle.tag_pool.specs.Refusals.{many_checks}
use Rattle.tag_cache.specs.declared.cache.Cache.{Cache}
use Rattle.tag_cache.specs.Caches.{hand_of}
use Rattle.tag_cache.specs.Changes.{IsUnchanged, KeepsSame, SameWindow}
use Rattle.tag_cache.specs.Holding.{HoldsMore, HoldsSame}
use Rattle.tag_cache.specs.Tallies.{Tallies}

-- the user gains all of these tags and no other, or holds the same tags as before
abbrev pub HoldsAllOrSame : {R : Type 0} → Bool → List ℕ → Cache R → Cache R → Type 0
HoldsAllOrSame true tags old new = HoldsMore (Contains tags) old new
HoldsAllOrSame false tags old new = HoldsSame old new

-- all of these tags were handed out; or fewer than they are, and as many were taken back
abbrev pub TalliesAllOrFewer : {R : Type 0} → Bool → List ℕ → Cache R → Cache R → Type 0
TalliesAllOrFewer true tags old new = Tallies (length tags) 0 old new
TalliesAllOrFewer false tags old new = (won : ℕ) × (won < length tags) × Tallies won won old new

-- gets as many ordinary tags as the slice has places, or none, and tells how many it left free
pub record DoesGetMany {R : Type 0} (pool : Pool R) (before tags : List ℕ) (result : Result (Bool × ℕ) TagFault)
    (old new : Cache R) : Type 0 where
  pub refusals : RefusesBy (many_checks pool (hand_of old) (length before))
      (IsUnchanged old new × (tags ≡ before)) result
  pub count : length tags ≡ length before
  pub gets : IfOk result (λ found. hands.GetsMany pool tags found.0 found.1 (hand_of old) (hand_of new))
  pub more : IfOk result (λ found. HoldsAllOrSame found.0 tags old new)
  pub kept : KeepsSame old new
  pub window : SameWindow old new
  pub tally : IfOk result (λ found. TalliesAllOrFewer found.0 tags old new)
