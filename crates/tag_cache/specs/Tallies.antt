-- How many tags a cache has handed to its user and taken back.
use Rattle.std.specs.Prelude.{◌≡◌, ℕ, ◌+◌, Option, Some, None}
use Rattle.tag_pool.specs.Tallies.{won_in_both, back_in_both}
use Rattle.tag_cache.specs.declared.cache.Cache.{Cache}
use Rattle.tag_cache.specs.Caches.{count_of, reused_of}

-- how many tags were handed to the user: those that the hand won, and kept ones that were handed out again
abbrev pub handed_of : {R : Type 0} → Cache R → ℕ
handed_of cache = won_in_both cache.hand + reused_of cache

-- how many tags were taken back from the user: those that the hand gave back, and those that are or were kept
abbrev pub taken_of : {R : Type 0} → Cache R → ℕ
taken_of cache = back_in_both cache.hand + reused_of cache + count_of cache

-- that many more tags were handed to the user, and that many more were taken back
pub record Tallies {R : Type 0} (out back : ℕ) (old new : Cache R) : Type 0 where
  pub handed : handed_of new ≡ handed_of old + out
  pub taken : taken_of new ≡ taken_of old + back

-- how many tags an answer has
abbrev pub answered : Option ℕ → ℕ
answered None = 0
answered (Some tag) = 1
