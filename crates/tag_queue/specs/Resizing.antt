-- Resizes of the ordinary set: when they are refused, and what they change.
use Rattle.std.specs.Prelude.{◌≡◌, ◌≤◌}
use Rattle.std.specs.Result.{IsErrAnd}
use Rattle.tag_queue.specs.Uses.{All, count_by, Hand, is_some, layout_of, List, Ordinary, Pool, Result, ℕ}
use Rattle.step_ledger.specs.Gather.{HasAll, IsLeastMissing}
use Rattle.tag_layout.specs.Layout.{wake_batch}
use Rattle.tag_pool.specs.Hands.{reserved_of}
use Rattle.tag_pool.specs.Resizing as pool
use Rattle.tag_pool.specs.declared.resizes.ResizeCause.{ResizeCause}
use Rattle.tag_pool.specs.declared.resizes.ResizeCause.TheVariants.{Missing, DepthTooLarge, InUse, Waiting, Memory}
use Rattle.wake_book.specs.Book.{Rebatches}
use Rattle.tag_queue.specs.declared.hand.QueueHand.{QueueHand}
use Rattle.tag_queue.specs.declared.queue.Queue.{Queue}
use Rattle.tag_queue.specs.declared.resizes.QueueResizeFault.{QueueResizeFault}
use Rattle.tag_queue.specs.Hands.{all_in_pool, hands_of, IsHandOf, min_shallow_of, numbers_of, pool_of, standing_of, tellers_of, waiters_of}

-- how many of these hands are in a wait group
abbrev pub standing_count : {R : Type 0} → List (QueueHand R) → ℕ
standing_count hands = count_by (λ hand. is_some (standing_of hand)) hands

-- no tag is held and none is posted, if these are all hands
abbrev pub AreUnused : {R : Type 0} → List (QueueHand R) → Type 0
AreUnused hands = pool.AreUnused (all_in_pool hands)

-- this many tags are held and this many are posted, and at least one tag is either
abbrev pub AreUsed : {R : Type 0} → List (QueueHand R) → ℕ → ℕ → Type 0
AreUsed hands held posted = pool.AreUsed (all_in_pool hands) held posted

-- no tag is in use, and this many hands are in a wait group, at least one
abbrev pub AreWaiting : {R : Type 0} → List (QueueHand R) → ℕ → Type 0
AreWaiting hands count = AreUnused hands × (count ≡ standing_count hands) × (1 ≤ count)

-- in each set, each tag that these hands won was given back, is held or is posted
abbrev pub BalanceInBoth : {R : Type 0} → List (QueueHand R) → Type 0
BalanceInBoth hands = pool.BalanceInBoth (all_in_pool hands)

-- the total is one to which the reserved tags leave the rest
abbrev pub HasRange : {R : Type 0} → Queue R → ℕ → Type 0
HasRange queue total = pool.HasRange total (reserved_of (pool_of queue))

-- the total is too large, or smaller than the reserved set
abbrev pub IsOutOfRange : {R : Type 0} → Queue R → ℕ → Type 0
IsOutOfRange queue total = pool.IsOutOfRange total (reserved_of (pool_of queue))

-- all hands are present, and the queue can have this total
abbrev pub HasMap : {R : Type 0} → Queue R → List (QueueHand R) → ℕ → Type 0
HasMap queue hands total = HasAll (numbers_of hands) (hands_of queue) × HasRange queue total

-- a resize can fail only for lack of memory
abbrev pub MayResize : {R : Type 0} → Queue R → List (QueueHand R) → ℕ → Type 0
MayResize queue hands total = HasMap queue hands total × AreUnused hands × (standing_count hands ≡ 0)

-- what holds if a resize is refused for this cause
abbrev pub IsRefusedFor : {R : Type 0} → Queue R → List (QueueHand R) → ℕ → ResizeCause → Type 0
IsRefusedFor queue hands total (Missing number) = IsLeastMissing (numbers_of hands) (hands_of queue) number
IsRefusedFor queue hands total DepthTooLarge = HasAll (numbers_of hands) (hands_of queue) × IsOutOfRange queue total
IsRefusedFor queue hands total (InUse held posted) = HasMap queue hands total × AreUsed hands held posted
IsRefusedFor queue hands total (Waiting count) = HasMap queue hands total × AreWaiting hands count
IsRefusedFor queue hands total Memory = MayResize queue hands total

-- why the resize of a pool whose hands are all present can fail while so many of its hands stand in wait groups, and
-- none waits by the bell
abbrev pub StillRefuses : {R : Type 0} → Pool R → List (Hand R) → ℕ → ℕ → ResizeCause → Type 0
StillRefuses of hands total standing (Waiting count) =
    pool.HasMap of hands total × pool.AreUnused hands × (count ≡ standing) × (1 ≤ count)
StillRefuses of hands total standing Memory = pool.MayResize of hands total × (standing ≡ 0)
StillRefuses of hands total standing cause = pool.IsRefusedFor of hands total cause

-- the result is a refusal for this cause
abbrev pub IsRefusedAs : {R A : Type 0} → Result A (QueueResizeFault R) → ResizeCause → Type 0
IsRefusedAs result cause = IsErrAnd result (λ fault. fault.cause ≡ cause)

-- the same queue: its pool, its book and its groups are unchanged
pub record IsSame {R : Type 0} (old new : Queue R) : Type 0 where
  pub pool : pool_of new ≡ pool_of old
  pub book : new.book ≡ old.book
  pub groups : new.groups ≡ old.groups
  pub min_shallow : min_shallow_of new ≡ min_shallow_of old

-- except for its pool and its batch the queue is as before, and the batch is that of the new ordinary set
pub record KeepsRest {R : Type 0} (old new : Queue R) : Type 0 where
  pub book : Rebatches old.book new.book (wake_batch (layout_of (pool_of new) Ordinary) (min_shallow_of old))
  pub groups : new.groups ≡ old.groups
  pub min_shallow : min_shallow_of new ≡ min_shallow_of old

-- the hands continue, in the same order, on a resized pool of this total, with their counts and wait groups
pub record IsResized {R : Type 0} (old : Queue R) (hands : List (QueueHand R)) (total : ℕ) (new : Queue R)
    (resized : List (QueueHand R)) : Type 0 where
  pub pool : pool.IsResized (pool_of old) (all_in_pool hands) total (pool_of new) (all_in_pool resized)
  pub tellers : tellers_of resized ≡ tellers_of hands
  pub waiters : waiters_of resized ≡ waiters_of hands
  pub numbers : numbers_of resized ≡ numbers_of hands
  pub own : All (IsHandOf new) resized
  pub rest : KeepsRest old new
