-- Waits for a tag of a set by the bell over a cache, round by round: what each does to the cache.
use Rattle.std.specs.Prelude.{◌≡◌, ◌⊎◌}
use Rattle.tag_cache.specs.Uses.{IsAnswer, IsTagIn, Kind, nobody, None, Option, Ordinary, Pool, Reserved, Some, Told, Turn, Waiter, ℕ}
use Rattle.tag_pool.specs.Waits as hands
use Rattle.tag_pool.specs.declared.gets.rounds.Next.{Next}
use Rattle.tag_pool.specs.declared.gets.rounds.Next.TheVariants.{Won, Over, Sleep}
use Rattle.tag_cache.specs.declared.cache.Cache.{Cache}
use Rattle.tag_cache.specs.Caches.{KeepsNone, hand_of}
use Rattle.tag_cache.specs.Changes.{KeepsSame, Learns, Reuses, SameWindow}
use Rattle.tag_cache.specs.Holding.{HoldsMore}
use Rattle.tag_cache.specs.Same.{SameTags}
use Rattle.tag_cache.specs.Tallies.{answered, Tallies}

-- the hand got up, and then saw to all tags; the user holds the same tags, and the same are kept
pub record EndsWait {R : Type 0} (pool : Pool R) (kind : Kind) (told : Told) (old new : Cache R) : Type 0 where
  pub hand : hands.EndsWait pool kind told (hand_of old) (hand_of new)
  pub same : SameTags old new

-- nothing is kept, and the hand listed itself, then tried each tag in vain, and has nothing to see to, so that it may sleep
pub record MaySleepNow {R : Type 0} (pool : Pool R) (waiter : Waiter) (turn : Turn) (old new : Cache R) : Type 0 where
  pub none : KeepsNone new
  pub hand : hands.MaySleepNow pool Ordinary waiter turn (hand_of old) (hand_of new)
  pub same : SameTags old new

-- the tag is the least kept one, by no step, and then the hand ended its wait
pub record WinsKept {R : Type 0} (pool : Pool R) (tag : ℕ) (told : Told) (old new : Cache R) : Type 0 where
  pub taken : Cache R
  pub reuses : Reuses tag old taken
  pub ends : EndsWait pool Ordinary told taken new

-- nothing was kept, and the hand listed itself once more and won the tag, and then ended its wait
pub record WinsListed {R : Type 0} (pool : Pool R) (waiter : Waiter) (turn : Turn) (tag : ℕ) (told : Told)
    (old new : Cache R) : Type 0 where
  pub none : KeepsNone old
  pub hand : hands.WinsRound pool Ordinary waiter turn tag told (hand_of old) (hand_of new)
  pub kept : KeepsSame old new

-- the user gains this ordinary tag and no other, a kept one or one that the hand won; the hand waits no more
pub record WinsRound {R : Type 0} (pool : Pool R) (waiter : Waiter) (turn : Turn) (tag : ℕ) (told : Told)
    (old new : Cache R) : Type 0 where
  pub more : HoldsMore (λ other. other ≡ tag) old new
  pub ordinary : IsTagIn pool Ordinary tag
  pub source : WinsKept pool tag told old new ⊎ WinsListed pool waiter turn tag told old new
  pub knows : Learns tag old new
  pub tally : Tallies 1 0 old new

-- what one round for an ordinary tag did, by its answer: one after which the hand may sleep told nobody
abbrev pub GoesOrdinary : {R : Type 0} → Pool R → Waiter → Turn → Next → Told → Cache R → Cache R → Type 0
GoesOrdinary pool waiter turn (Won tag) told old new = WinsRound pool waiter turn tag told old new
GoesOrdinary pool waiter turn Over told old new = EndsWait pool Ordinary told old new
GoesOrdinary pool waiter turn Sleep told old new = (told ≡ nobody) × MaySleepNow pool waiter turn old new

-- the same of a round that was no end
abbrev pub Tries : {R : Type 0} → Pool R → Waiter → Turn → Next → Told → Cache R → Cache R → Type 0
Tries pool waiter turn (Won tag) told old new = WinsRound pool waiter turn tag told old new
Tries pool waiter turn Over told old new = ⊥
Tries pool waiter turn Sleep told old new = (told ≡ nobody) × MaySleepNow pool waiter turn old new

-- the tag that a round won
abbrev pub won_by : Next → Option ℕ
won_by (Won tag) = Some tag
won_by Over = None
won_by Sleep = None

-- a round for a reserved tag is the hand's alone: the same ordinary tags are kept, whatever it answers
pub record GoesPast {R : Type 0} (pool : Pool R) (waiter : Waiter) (turn : Turn) (next : Next) (told : Told)
    (old new : Cache R) : Type 0 where
  pub hand : hands.Goes pool Reserved waiter turn next told (hand_of old) (hand_of new)
  pub more : HoldsMore (IsAnswer (won_by next)) old new
  pub kept : KeepsSame old new
  pub window : SameWindow old new
  pub tally : Tallies (answered (won_by next)) 0 old new

-- what one round did
abbrev pub Goes : {R : Type 0} → Pool R → Kind → Waiter → Turn → Next → Told → Cache R → Cache R → Type 0
Goes pool Ordinary waiter turn next told old new = GoesOrdinary pool waiter turn next told old new
Goes pool Reserved waiter turn next told old new = GoesPast pool waiter turn next told old new
