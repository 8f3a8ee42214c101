-- What a clear owes its user, from what becomes of the tag.
use Rattle.tag_cache.proofs.Uses.{Cache, Goes, IsCacheOf, IsKnown, KnowsLess, LeavesWindow, Ok, PassesAll, Pool, tag_checks, ℕ}
use Rattle.tag_cache.specs.Calls.{DoesClear, GivesBack}
use Rattle.tag_cache.proofs.Below.{held_below}
use Rattle.tag_cache.proofs.Going.{goes_less, goes_tallies}
use Rattle.tag_cache.proofs.Reusing.{known_held}

-- a tag that the user is known to hold passes every check
pub known_passes : {R : Type 0} (pool : Pool R) (tag : ℕ) (cache : Cache R) → IsCacheOf pool cache → IsKnown cache tag
    → PassesAll (tag_checks pool cache tag)
known_passes pool tag cache own known = let held = known_held cache tag known in
    (held_below pool cache.hand tag own held.0, (held, tt))

module _ {R : Type 0} (pool : Pool R) (tag : ℕ) (old new : Cache R) where
  -- every check passed, and the tag went its way
  pub does_clear : (freed : ℕ) → PassesAll (tag_checks pool old tag) → Goes pool tag old new → GivesBack freed old new
      → (LeavesWindow tag old → KnowsLess tag old new) → DoesClear tag pool (Ok freed) old new
  does_clear freed passes goes back knows = record {
    refusals = record { first = tt; passes = passes; same = tt };
    less = goes_less pool tag old new goes;
    way = goes;
    freed = back;
    knows = knows;
    tally = goes_tallies pool tag old new goes;
  }
