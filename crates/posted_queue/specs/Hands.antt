-- The terms in which contracts speak about a queue and its hands.
use Rattle.std.specs.Prelude.{◌≡◌, List, map, ⊤, ℕ}
use Rattle.crossbeam_queue.specs.Passes.{IsPassOf, IsSamePass, ruled_capacity, view}
use Rattle.tag_pool.specs.Hands as pool
use Rattle.tag_pool.specs.Opening as opening
use Rattle.tag_pool.specs.declared.hand.Hand.{Hand}
use Rattle.tag_pool.specs.declared.pool.Pool.{Pool}
use Rattle.posted_queue.specs.Assigned.{assigning_in, IsSeatOf}
use Rattle.posted_queue.specs.declared.assigned.Assigning.{Assigning}
use Rattle.posted_queue.specs.declared.line.Track.{Track}
use Rattle.posted_queue.specs.declared.queue.PostedHand.{PostedHand}
use Rattle.posted_queue.specs.declared.queue.PostedQueue.{PostedQueue}

-- the tokens of the queue: a free one stands for a queued tag
abbrev pub tokens_of : PostedQueue → Pool ⊤
tokens_of queue = queue.tokens

-- how many numbers the line has room for
abbrev pub room_of : PostedQueue → ℕ
room_of queue = ruled_capacity queue.line

-- how many hands the queue has
abbrev pub hands_of : PostedQueue → ℕ
hands_of queue = pool.hands_of queue.tokens

-- the hand as one of the tokens
abbrev pub in_tokens : PostedHand → Hand ⊤
in_tokens own = own.tokens

-- what the rule of the line knows of the hand
abbrev pub track_of : PostedHand → Track
track_of own = view own.pass

-- what the rule of the assignments knows of the hand
abbrev pub assigning_of : PostedHand → Assigning
assigning_of own = assigning_in own.seat

-- the hand's number, from 0
abbrev pub number_of : PostedHand → ℕ
number_of own = pool.number_of own.tokens

-- the numbers of several hands
abbrev pub numbers_of : List PostedHand → List ℕ
numbers_of hands = map number_of hands

-- the hand belongs to the queue, and holds no token
abbrev pub IsOwnOf : PostedQueue → PostedHand → Type 0
IsOwnOf queue own = pool.IsHandOf queue.tokens own.tokens × IsPassOf queue.line own.pass × IsSeatOf queue.token_of own.seat
    × opening.HoldsNone own.tokens

-- the hand still belongs to the queue, and is the same one
abbrev pub IsStillOwnOf : PostedQueue → PostedHand → PostedHand → Type 0
IsStillOwnOf queue old new = IsOwnOf queue new × (number_of new ≡ number_of old) × IsSamePass old.pass new.pass
