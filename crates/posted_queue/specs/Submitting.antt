-- What a submit does, and when it is refused.
use Rattle.std.specs.Prelude.{◌<◌, ◌∷◌, ◌≡◌, ◌≢◌, ◌≤◌, ◌⊎◌, [], IfErr, OnErr, Result, ℕ}
use Rattle.refusals.specs.Refusals.{Checks, RefusesOrRunsOut}
use Rattle.tag_pool.specs.Clears.{ClearsAndWakes}
use Rattle.tag_pool.specs.Hands.{Holds, total_of}
use Rattle.tag_pool.specs.Slots.{Misses, Posts, Takes}
use Rattle.tag_pool.specs.declared.hand.Hand.{Hand}
use Rattle.tag_pool.specs.declared.pool.Pool.{Pool}
use Rattle.posted_queue.specs.Assigned.{Assigns, LooksUp}
use Rattle.posted_queue.specs.declared.assigned.Assigning.{Assigning}
use Rattle.posted_queue.specs.declared.assigned.TheConstants.{NO_TOKEN}
use Rattle.posted_queue.specs.declared.fault.SubmitFault.{SubmitFault}
use Rattle.posted_queue.specs.declared.fault.SubmitFault.TheVariants.{NoSuchTag, NotHeld, StillQueued}
use Rattle.posted_queue.specs.declared.queue.PostedHand.{PostedHand}
use Rattle.posted_queue.specs.declared.queue.PostedQueue.{PostedQueue}
use Rattle.posted_queue.specs.declared.submits.Submitted.{Submitted}
use Rattle.posted_queue.specs.Hands.{assigning_of, in_tokens, tokens_of, track_of}
use Rattle.posted_queue.specs.Line.{hand_at, Joins, tokens_at}

-- what a submit checks first
abbrev pub submit_checks : {R : Type 0} → Pool R → Hand R → ℕ → Checks SubmitFault
submit_checks pool hand tag = (tag < total_of pool, NoSuchTag) ∷ (Holds hand tag, NotHeld) ∷ []

-- the hand found the tag to go by this token, and then assigned none to it
abbrev pub TakesAssigned : ℕ → ℕ → Assigning → Assigning → Type 0
TakesAssigned tag token old new = (found : Assigning) × LooksUp tag token old found × Assigns tag NO_TOKEN found new

-- the hand found the tag to go by what is no token, or by a token that it then found not posted; that is all that it did
pub record LooksInVain (queue : PostedQueue) (tag : ℕ) (old new : PostedHand) : Type 0 where
  pub found : ℕ
  pub looks : LooksUp tag found (assigning_of old) (assigning_of new)
  pub misses : ((total_of (tokens_of queue) ≤ found) × (in_tokens new ≡ in_tokens old))
      ⊎ Misses found (in_tokens old) (in_tokens new)

-- the queue has no token for a tag of this number, or the hand looked for it in vain
abbrev pub FindsNoToken : PostedQueue → ℕ → PostedHand → PostedHand → Type 0
FindsNoToken queue tag old new = ((total_of (tokens_of queue) ≤ tag) × (new ≡ old)) ⊎ LooksInVain queue tag old new

-- a submit that is refused changes nothing, but for a look for the tag's token where it is still queued
pub record RefusesSubmit {R : Type 0} (queue : PostedQueue) (pool : Pool R) (tag : ℕ)
    (result : Result (Submitted R) SubmitFault) (old new : Hand R) (own_old own_new : PostedHand) : Type 0 where
  pub checks : RefusesOrRunsOut (submit_checks pool old tag) StillQueued result
  pub hand : OnErr result (new ≡ old)
  pub line : OnErr result (track_of own_new ≡ track_of own_old)
  pub unchanged : IfErr result (λ fault. fault ≢ StillQueued → own_new ≡ own_old)
  pub still : IfErr result (λ fault. fault ≡ StillQueued → FindsNoToken queue tag own_old own_new)

-- the tag is posted with the note, and its number in the line. When it joined the line, the hand had posted the tag, and
-- had taken the token that it found the tag to go by, and not freed it; then it freed that token, and told those of it who
-- are named
pub record Submits {R : Type 0} (queue : PostedQueue) (tag note : ℕ) (done : Submitted R) (old new : Hand R)
    (own_old own_new : PostedHand) : Type 0 where
  pub posts : Posts tag note old new
  pub posted_first : hand_at done.joined ≡ new
  pub token : ℕ
  pub assigned : TakesAssigned tag token (assigning_of own_old) (assigning_of own_new)
  pub takes : Takes token (in_tokens own_old) (tokens_at done.joined)
  pub joins : Joins tag (track_of own_old) (track_of own_new)
  pub frees : ClearsAndWakes (tokens_of queue) token done.woken (tokens_at done.joined) (in_tokens own_new)
