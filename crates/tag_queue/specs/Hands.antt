-- The terms in which contracts speak about a queue and its hands.
use Rattle.std.specs.Prelude.{◌+◌, ◌≡◌}
use Rattle.tag_queue.specs.Uses.{Announcement, BookStep, get_elem?, GroupStep, Hand, length, List, map, Option, Pool, Sighting, some, Teller, Waiter, ℕ}
use Rattle.tag_pool.specs.Hands as pool
use Rattle.tag_pool.specs.Holding as holding
use Rattle.wake_book.specs.Book as book
use Rattle.wake_book.specs.Groups as groups
use Rattle.tag_queue.specs.declared.hand.QueueHand.{QueueHand}
use Rattle.tag_queue.specs.declared.queue.Queue.{Queue}

-- the pool of the queue's tags
abbrev pub pool_of : {R : Type 0} → Queue R → Pool R
pool_of queue = queue.pool

-- how many completions one charge takes
abbrev pub batch_of : {R : Type 0} → Queue R → ℕ
batch_of queue = book.batch_of queue.book

-- the most completions that one hand may count
abbrev pub cap_of : {R : Type 0} → Queue R → ℕ
cap_of queue = book.cap_of queue.book

-- the hand belongs to the queue
abbrev pub IsHandOf : {R : Type 0} → Queue R → QueueHand R → Type 0
IsHandOf queue hand = pool.IsHandOf queue.pool hand.inner × book.IsTellerOf queue.book hand.teller
    × groups.IsWaiterOf queue.groups hand.waiter

-- how many hands the queue has
abbrev pub hands_of : {R : Type 0} → Queue R → ℕ
hands_of queue = pool.hands_of queue.pool

-- the minimum shallow depth as the options gave it
abbrev pub min_shallow_of : {R : Type 0} → Queue R → Option ℕ
min_shallow_of queue = queue.min_shallow

-- the hand as one of the pool
abbrev pub in_pool : {R : Type 0} → QueueHand R → Hand R
in_pool hand = hand.inner

-- the hand as a teller of the book
abbrev pub teller_of : {R : Type 0} → QueueHand R → Teller
teller_of hand = hand.teller

-- the hand as a waiter of the groups
abbrev pub waiter_of : {R : Type 0} → QueueHand R → Waiter
waiter_of hand = hand.waiter

-- the hand's latest look for waiters, after a get or in a clear
abbrev pub sighting_of : {R : Type 0} → QueueHand R → Sighting (Hand R)
sighting_of hand = hand.sighting

-- when the hand announced its latest sleep
abbrev pub announcement_of : {R : Type 0} → QueueHand R → Announcement (Hand R)
announcement_of hand = hand.announcement

-- the hand's number, from 0
abbrev pub number_of : {R : Type 0} → QueueHand R → ℕ
number_of hand = pool.number_of hand.inner

-- the hand still belongs to the queue, and is the same one
abbrev pub IsStillOf : {R : Type 0} → Queue R → QueueHand R → QueueHand R → Type 0
IsStillOf queue old new = IsHandOf queue new × (number_of new ≡ number_of old)

-- the numbers of several hands
abbrev pub numbers_of : {R : Type 0} → List (QueueHand R) → List ℕ
numbers_of hands = map number_of hands

-- several hands as those of the pool
abbrev pub all_in_pool : {R : Type 0} → List (QueueHand R) → List (Hand R)
all_in_pool hands = map in_pool hands

-- several hands as tellers of the book
abbrev pub tellers_of : {R : Type 0} → List (QueueHand R) → List Teller
tellers_of hands = map teller_of hands

-- several hands as waiters of the groups
abbrev pub waiters_of : {R : Type 0} → List (QueueHand R) → List Waiter
waiters_of hands = map waiter_of hands

-- the wait group that the hand is in, if any
abbrev pub standing_of : {R : Type 0} → QueueHand R → Option ℕ
standing_of hand = groups.standing_of hand.waiter

-- the hand's own steps on the book, newest first
abbrev pub book_steps : {R : Type 0} → QueueHand R → List BookStep
book_steps hand = book.steps_of hand.teller

-- the hand's own steps on the groups, newest first
abbrev pub group_steps : {R : Type 0} → QueueHand R → List GroupStep
group_steps hand = groups.steps_of hand.waiter

-- how many steps the hand has made in the pool, on the book and on the groups
abbrev pub step_count : {R : Type 0} → QueueHand R → ℕ
step_count hand = pool.step_count hand.inner + length (book_steps hand) + length (group_steps hand)

-- what the hand has in the pool is as before
abbrev pub SameInPool : {R : Type 0} → QueueHand R → QueueHand R → Type 0
SameInPool old new = in_pool new ≡ in_pool old

-- the hand's completions, grants and wait group are as before
abbrev pub SameCounts : {R : Type 0} → QueueHand R → QueueHand R → Type 0
SameCounts old new = (teller_of new ≡ teller_of old) × (waiter_of new ≡ waiter_of old)

-- the hand's tags, hints and completions are as before
abbrev pub SameTags : {R : Type 0} → QueueHand R → QueueHand R → Type 0
SameTags old new = SameInPool old new × (teller_of new ≡ teller_of old)

-- the hand is unchanged: what it has in the pool, its completions, its grants and its wait group
pub record IsUnchanged {R : Type 0} (old new : QueueHand R) : Type 0 where
  pub pool : holding.IsUnchanged (in_pool old) (in_pool new)
  pub counts : SameCounts old new

-- the hands are in the same order, and each of them is unchanged
pub record AreUnchanged {R : Type 0} (old new : List (QueueHand R)) : Type 0 where
  pub count : length new ≡ length old
  pub each : (n : ℕ) (a b : QueueHand R) → get_elem? old n ≡ some a → get_elem? new n ≡ some b → IsUnchanged a b
