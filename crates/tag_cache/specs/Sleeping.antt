-- How the hand of a cache sleeps by the bell until it is told, and wakes those whom it told.
use Rattle.std.specs.Prelude.{◌≡◌, ◌≤◌, ◌⊎◌}
use Rattle.tag_cache.specs.Uses.{caller_of, IsTagIn, Kind, nobody, Ordinary, OwesNoMore, Pool, Reserved, told_by, Waiter, Woken, ℕ}
use Rattle.tag_pool.specs.Waits as hands
use Rattle.tag_cache.specs.declared.cache.Cache.{Cache}
use Rattle.tag_cache.specs.Bell.{SeesTo}
use Rattle.tag_cache.specs.Caches.{KeepsNone, hand_of}
use Rattle.tag_cache.specs.Changes.{KeepsSame, Learns, Reuses, SameWindow}
use Rattle.tag_cache.specs.Holding.{HoldsMore}
use Rattle.tag_cache.specs.Tallies.{Tallies}

-- the tag is the least kept one, by no step, and nobody was told
pub record FromKept {R : Type 0} (tag : ℕ) (woken : Woken) (old new : Cache R) : Type 0 where
  pub reuses : Reuses tag old new
  pub none : told_by woken ≡ nobody

-- nothing was kept, and the hand won the tag, at once or after it waited; then it saw to all ordinary tags, and woke those
-- whom this told
pub record FromWaiting {R : Type 0} (pool : Pool R) (tag : ℕ) (woken : Woken) (old new : Cache R) : Type 0 where
  pub none : KeepsNone old
  pub gets : hands.GetsBlocking pool Ordinary tag woken (hand_of old) (hand_of new)
  pub same : KeepsSame old new

-- the user gains this ordinary tag and no other, a kept one or one for which the hand may have slept; the hand has no
-- more to see to than before
pub record GetsBlocking {R : Type 0} (pool : Pool R) (tag : ℕ) (woken : Woken) (old new : Cache R) : Type 0 where
  pub more : HoldsMore (λ other. other ≡ tag) old new
  pub ordinary : IsTagIn pool Ordinary tag
  pub source : FromKept tag woken old new ⊎ FromWaiting pool tag woken old new
  pub owes : (waiter : Waiter) → OwesNoMore waiter (caller_of (hand_of old) Ordinary) (caller_of (hand_of new) Ordinary)
  pub knows : Learns tag old new
  pub tally : Tallies 1 0 old new

-- the user gains this reserved tag and no other, for which the hand may have slept; the same ordinary tags are kept
pub record GetsReservedBlocking {R : Type 0} (pool : Pool R) (tag : ℕ) (woken : Woken) (old new : Cache R) : Type 0 where
  pub gets : hands.GetsBlocking pool Reserved tag woken (hand_of old) (hand_of new)
  pub more : HoldsMore (λ other. other ≡ tag) old new
  pub kept : KeepsSame old new
  pub window : SameWindow old new
  pub tally : Tallies 1 0 old new

-- the hand has nothing more to see to among tags of this kind: it told these, of whom it woke the sleepers
abbrev pub SeesToAndWakes : {R : Type 0} → Kind → ℕ → Pool R → Woken → Cache R → Cache R → Type 0
SeesToAndWakes kind freed pool woken = SeesTo kind freed pool (told_by woken)

-- after a call by which so many tags of this kind became free: the hand saw to them, if there are any, and woke those whom
-- this told
pub record WakesFor {R : Type 0} (kind : Kind) (freed : ℕ) (pool : Pool R) (woken : Woken) (old new : Cache R) : Type 0 where
  pub none : freed ≡ 0 → (told_by woken ≡ nobody) × (new ≡ old)
  pub some : 1 ≤ freed → SeesToAndWakes kind freed pool woken old new
