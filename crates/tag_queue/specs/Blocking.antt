-- How a blocking get waits: by rounds, each of them a get that found no tag and then a stay in a wait group.
use Rattle.std.specs.Prelude.{◌%◌, ◌+◌, ◌≡◌, ◌⊎◌}
use Rattle.tag_queue.specs.Uses.{announced_beside, announced_steps, Gets, GroupStep, Hand, IsLeave, IsSleep, List, None, Nudged, Option, Ordinary, Pool, RingsNobody, RingsOnce, Some, suc, wait_index_of, Waiter, zero, ℕ}
use Rattle.wake_book.specs.declared.waiting.Left.{Left}
use Rattle.wake_book.specs.declared.waiting.Left.TheVariants.{Woken, Unwoken}
use Rattle.tag_queue.specs.declared.hand.QueueHand.{QueueHand}
use Rattle.tag_queue.specs.Hands.{in_pool, teller_of, waiter_of, announcement_of, standing_of, group_steps, SameTags}
use Rattle.tag_queue.specs.Looks.{GetsAndLooks}
use Rattle.tag_queue.specs.Waits.{Enters}

-- a plain get of an ordinary tag, and then the look for waiters that it calls for
abbrev pub GetsPlain : {R : Type 0} → Pool R → Option ℕ → QueueHand R → QueueHand R → Type 0
GetsPlain pool answer = GetsAndLooks (Gets pool Ordinary answer)

-- the waiter slept in the group if its search there found no tag, and otherwise made no step
abbrev pub Rests : ℕ → Option ℕ → List GroupStep → List GroupStep → Type 0
Rests group None steps steps' = IsSleep group steps steps'
Rests group (Some tag) steps steps' = steps' ≡ steps

-- the hand announced its latest sleep when its list of group steps and what it had done in the pool were these
abbrev pub AnnouncedAt : {R : Type 0} → QueueHand R → QueueHand R → Type 0
AnnouncedAt moment hand = (announced_beside (announcement_of hand) ≡ in_pool moment)
    × (announced_steps (announcement_of hand) ≡ group_steps moment)

-- a waiter that has a tag, and used a grant although it needed none, rang one sleeper of every group once, and any other
-- rang for nobody
abbrev pub PassesOn : Option ℕ → Left → Waiter → Waiter → Type 0
PassesOn (Some tag) Woken old new = RingsOnce (Nudged 1) old new
PassesOn (Some tag) Unwoken old new = RingsNobody old new
PassesOn None left old new = RingsNobody old new

-- the hand entered the group of its wait index, searched, rested there as that search called for, left that group, and
-- passed on a wakeup that it did not need; its list of group steps grew by nothing else, and it rang for nobody else
pub record IsStay {R : Type 0} (pool : Pool R) (group : ℕ) (answer : Option ℕ) (old new : QueueHand R) : Type 0 where
  pub entered : QueueHand R
  pub searched : QueueHand R
  pub enters : Enters group old entered
  pub silent : RingsNobody (waiter_of old) (waiter_of entered)
  pub search : GetsPlain pool answer entered searched
  pub rested : List GroupStep
  pub left : Left
  pub rests : Rests group answer (group_steps searched) rested
  pub announced : answer ≡ None → AnnouncedAt entered new
  pub leaves : IsLeave group rested (group_steps new) left
  pub passes : PassesOn answer left (waiter_of searched) (waiter_of new)
  pub out : standing_of new ≡ None
  pub next : wait_index_of (waiter_of new) ≡ (group + 1) % 8
  pub same : SameTags searched new

-- a get that found no tag, and then a stay whose search gave this answer
pub record IsRound {R : Type 0} (pool : Pool R) (answer : Option ℕ) (old new : QueueHand R) : Type 0 where
  pub between : QueueHand R
  pub group : ℕ
  pub none : GetsPlain pool None old between
  pub stay : IsStay pool group answer between new

-- that many rounds, one after another, none of which found a tag
abbrev pub AreRounds : {R : Type 0} → ℕ → Pool R → QueueHand R → QueueHand R → Type 0
AreRounds zero pool old new = new ≡ old
AreRounds {R} (suc rounds) pool old new = (mid : QueueHand R) × AreRounds rounds pool old mid × IsRound pool None mid new

-- after some rounds that found no tag the hand won this one, by a get or in the stay of one more round
pub record WaitsFor {R : Type 0} (pool : Pool R) (tag : ℕ) (old new : QueueHand R) : Type 0 where
  pub rounds : ℕ
  pub last : QueueHand R
  pub none : AreRounds rounds pool old last
  pub won : GetsPlain pool (Some tag) last new ⊎ IsRound pool (Some tag) last new

-- that many gets in the pool, one after another, each of which found no tag
abbrev pub FindNone : {R : Type 0} → ℕ → Pool R → Hand R → Hand R → Type 0
FindNone zero pool old new = new ≡ old
FindNone {R} (suc tries) pool old new = (mid : Hand R) × FindNone tries pool old mid × Gets pool Ordinary None mid new

-- after some gets that found no tag one found this tag; the hand counted nothing and is in no wait group
pub record BlockingGets {R : Type 0} (pool : Pool R) (tag : ℕ) (old new : QueueHand R) : Type 0 where
  pub tries : ℕ
  pub last : Hand R
  pub none : FindNone tries pool (in_pool old) last
  pub won : Gets pool Ordinary (Some tag) last (in_pool new)
  pub counts : teller_of new ≡ teller_of old
  pub out : standing_of new ≡ None
