-- How the hand of a cache waits by the bell, and sees to the tags that it made free or keeps.
use Rattle.std.specs.Prelude.{◌≡◌, ◌⊎◌}
use Rattle.tag_cache.specs.Uses.{Bool, caller_of, Changes, false, Hand, Kind, max, nobody, Ordinary, Pool, Reserved, Told, true, Waiter, ℕ}
use Rattle.tag_bell.specs.Callers.{OwesNothing}
use Rattle.tag_pool.specs.Bell as bell
use Rattle.tag_pool.specs.Sides as side
use Rattle.tag_cache.specs.declared.cache.Cache.{Cache}
use Rattle.tag_cache.specs.Caches.{KeepsNone, count_of, hand_of, reused_of}
use Rattle.tag_cache.specs.Changes.{KeepsSame, SameTerms, SameWindow}
use Rattle.tag_cache.specs.Clears.{GivesKept}
use Rattle.tag_cache.specs.Holding.{HoldsSame}
use Rattle.tag_cache.specs.Tallies.{Tallies}

-- the hand looked once, and found a hand that waits, or none
abbrev pub LooksForWaiters : {R : Type 0} → Bool → Hand R → Hand R → Type 0
LooksForWaiters found old new = Changes Ordinary (bell.LooksForWaiters found) old new

-- it found that nobody waits: nobody was told, and the same tags are kept
pub record FindsNobody {R : Type 0} (told : Told) (old new : Cache R) : Type 0 where
  pub looks : LooksForWaiters false (hand_of old) (hand_of new)
  pub none : told ≡ nobody
  pub kept : KeepsSame old new

-- the hand gave the tags that the cache keeps back, and then told these: of the sleepers, and of the listeners, no more
-- than `freed`, or than tags that were kept, or than one
pub record GivesAndTells {R : Type 0} (freed : ℕ) (pool : Pool R) (told : Told) (cache : Cache R) (old new : Hand R)
    : Type 0 where
  pub between : Hand R
  pub gives : GivesKept pool cache old between
  pub tells : Changes Ordinary (side.SeesTo (max (max freed (count_of cache)) 1) side.see_to_steps told)
      between new

-- it found somebody waiting, so all kept tags went back, and it told these
pub record TellsWithKept {R : Type 0} (freed : ℕ) (pool : Pool R) (told : Told) (old new : Cache R) : Type 0 where
  pub looked : Hand R
  pub looks : LooksForWaiters true (hand_of old) looked
  pub gives : GivesAndTells freed pool told old looked (hand_of new)
  pub none : KeepsNone new

-- no reserved tag is kept: the hand told these of such tags, and the same ordinary tags are kept
pub record TellsPast {R : Type 0} (freed : ℕ) (told : Told) (old new : Cache R) : Type 0 where
  pub tells : Changes Reserved (side.SeesTo (max freed 1) side.see_to_steps told) (hand_of old) (hand_of new)
  pub kept : KeepsSame old new

-- how it sees to tags of a kind: for an ordinary one the kept tags go back if somebody waits
abbrev pub SeesBy : {R : Type 0} → Kind → ℕ → Pool R → Told → Cache R → Cache R → Type 0
SeesBy Ordinary freed pool told old new = FindsNobody told old new ⊎ TellsWithKept freed pool told old new
SeesBy Reserved freed pool told old new = TellsPast freed told old new

-- the hand has nothing more to see to among tags of this kind; its user holds the same tags
pub record SeesTo {R : Type 0} (kind : Kind) (freed : ℕ) (pool : Pool R) (told : Told) (old new : Cache R) : Type 0 where
  pub way : SeesBy kind freed pool told old new
  pub done : (waiter : Waiter) → OwesNothing waiter (caller_of (hand_of new) kind)
  pub same : HoldsSame old new
  pub tally : Tallies 0 0 old new
  pub terms : SameTerms old new
  pub reused : reused_of new ≡ reused_of old
  pub window : SameWindow old new
