-- What a next does: a token is won, and with it the number that came first, whose tag is taken.
use Rattle.std.specs.Prelude.{◌<◌, ◌≡◌, ◌≤◌, ◌⊎◌, None, Option, Some, ⊤, ℕ}
use Rattle.tag_bell.specs.declared.sleeping.Woken.{Woken}
use Rattle.tag_pool.specs.Gets.{Gets, GetsAndLooks}
use Rattle.tag_pool.specs.Hands.{total_of}
use Rattle.tag_pool.specs.Slots.{Misses, Posts, Takes}
use Rattle.tag_pool.specs.declared.hand.Hand.{Hand}
use Rattle.tag_pool.specs.declared.kind.Kind.TheVariants.{Ordinary}
use Rattle.tag_pool.specs.declared.pool.Pool.{Pool}
use Rattle.posted_queue.specs.Assigned.{Assigns}
use Rattle.posted_queue.specs.declared.assigned.Assigning.{Assigning}
use Rattle.posted_queue.specs.declared.line.Track.{Track}
use Rattle.posted_queue.specs.declared.nexts.Popped.{Popped}
use Rattle.posted_queue.specs.declared.nexts.Popped.TheVariants.{Skipped, Tag}
use Rattle.posted_queue.specs.declared.queue.PostedHand.{PostedHand}
use Rattle.posted_queue.specs.declared.queue.PostedQueue.{PostedQueue}
use Rattle.posted_queue.specs.Hands.{assigning_of, in_tokens, tokens_of, track_of}
use Rattle.posted_queue.specs.Line.{Leaves}

-- the number that was popped
abbrev pub number_in : Popped → ℕ
number_in (Tag number) = number
number_in (Skipped number) = number

-- the hand took the tag with its slot; or its take found the tag not posted, unless the pool has none of this number
abbrev pub Comes : {R : Type 0} → Pool R → Popped → Hand R → Hand R → Type 0
Comes pool (Tag tag) old new = Takes tag old new
Comes pool (Skipped tag) old new = Misses tag old new ⊎ ((total_of pool ≤ tag) × (new ≡ old))

-- the hand assigned the token to the tag, if the queue has a token for a tag of this number
pub record AssignsWithin (queue : PostedQueue) (tag token : ℕ) (old new : Assigning) : Type 0 where
  pub within : tag < total_of (tokens_of queue) → Assigns tag token old new
  pub past : total_of (tokens_of queue) ≤ tag → new ≡ old

-- with a token that it held, the hand popped the number that came first, let its tag go by the token, posted the token,
-- and took the tag
pub record Serves {R : Type 0} (queue : PostedQueue) (pool : Pool R) (token : ℕ) (popped : Popped) (old new : Hand R)
    (held posted : Hand ⊤) (before after : Track) (seen assigned : Assigning) : Type 0 where
  pub leaves : Leaves (number_in popped) before after
  pub assigns : AssignsWithin queue (number_in popped) token seen assigned
  pub posts : Posts token 0 held posted
  pub comes : Comes pool popped old new

-- the hand won a token so, and then served the number that came first
pub record WinsAndServes {R : Type 0} (queue : PostedQueue) (pool : Pool R) (Wins : ℕ → Hand ⊤ → Hand ⊤ → Type 0)
    (popped : Popped) (old new : Hand R) (own_old own_new : PostedHand) : Type 0 where
  pub token : ℕ
  pub won : Hand ⊤
  pub wins : Wins token (in_tokens own_old) won
  pub serves : Serves queue pool token popped old new won (in_tokens own_new) (track_of own_old) (track_of own_new)
      (assigning_of own_old) (assigning_of own_new)

-- nothing changed but for what the hand did with tokens
pub record DoesNoMore {R : Type 0} (Does : Hand ⊤ → Hand ⊤ → Type 0) (old new : Hand R) (own_old own_new : PostedHand)
    : Type 0 where
  pub does : Does (in_tokens own_old) (in_tokens own_new)
  pub hand : new ≡ old
  pub line : track_of own_new ≡ track_of own_old
  pub assigned : assigning_of own_new ≡ assigning_of own_old

-- a search for a token, and the look for waiters that it calls for
abbrev pub Searches : PostedQueue → Option ℕ → Woken → Hand ⊤ → Hand ⊤ → Type 0
Searches queue answer woken = GetsAndLooks Ordinary (Gets (tokens_of queue) Ordinary answer) woken

-- the search for a token found none, each that it looked at taken; or it won one, and the hand served a number
abbrev pub Nexts : {R : Type 0}
    → PostedQueue → Pool R → Option Popped → Woken → Hand R → Hand R → PostedHand → PostedHand → Type 0
Nexts queue pool None woken = DoesNoMore (Searches queue None woken)
Nexts queue pool (Some popped) woken = WinsAndServes queue pool (λ token. Searches queue (Some token) woken) popped
