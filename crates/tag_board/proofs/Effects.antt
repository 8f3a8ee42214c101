-- What a call does to the hand that makes it.
use Rattle.std.proofs.Common.{◌≡◌, ℕ, List, ap}
use Rattle.tag_board.proofs.Uses.{Layout, QueueHand, Kind, Ordinary, Reserved, Queue, in_pool, pool_of, side_of, standing_of, SameCounts, other_kind, part_of, waiter_of, as_before, AsBefore, AloneSets, Part, Waiter}
use Rattle.wake_book.specs.Groups as groups
use Rattle.tag_pool.specs.Shows as shows
use Rattle.tag_queue.specs.Clears.{Counts}
use Rattle.tag_board.proofs.Holdings.{holds_same}
use Rattle.tag_board.proofs.Tallies as tallies
use Rattle.tag_board.proofs.Handfuls.{hand_tallies, PartTallies, part_holding}
use Rattle.tag_board.proofs.Only.{Alters}
use Rattle.tag_board.proofs.Waiters.{as_it_was}

-- what a call did to the part of its caller, to its caller as a waiter, and to both sets if its hand is the only one
pub record Effect (queue : Queue ℕ) (change : Part → Part) (waits : Waiter → Waiter → Type 0)
    (alters : AloneSets → AloneSets → Type 0) (old new : QueueHand ℕ) : Type 0 where
  pub part : part_of new ≡ change (part_of old)
  pub waiter : waits (waiter_of old) (waiter_of new)
  pub sets : Alters (pool_of queue) alters (in_pool old) (in_pool new)

module _ (queue : Queue ℕ) (old new : QueueHand ℕ) where
  -- a hand that only counted is in the same wait group as before
  pub stands_there : (kind : Kind) (n woken : ℕ) → Counts queue kind n old new woken
      → standing_of new ≡ standing_of old
  stands_there Ordinary n woken c = c.stands.1
  stands_there Reserved n woken c = ap groups.standing_of c.1.1

  -- a call on one set that counts n tags won, and nothing else
  pub counts_won : {change : Part → Part} {alters : AloneSets → AloneSets → Type 0} (kind : Kind) (n : ℕ)
      → tallies.Tallies n 0 (side_of (in_pool old) kind) (side_of (in_pool new) kind) → SameCounts old new
      → side_of (in_pool new) (other_kind kind) ≡ side_of (in_pool old) (other_kind kind)
      → (PartTallies kind n 0 old new → part_of new ≡ change (part_of old))
      → Alters (pool_of queue) alters (in_pool old) (in_pool new) → Effect queue change AsBefore alters old new
  counts_won kind n tally counts other part sets = record {
    part = part record {
      counts = hand_tallies (in_pool old) (in_pool new) kind n 0 tally other;
      stands = ap groups.standing_of counts.1;
    };
    waiter = as_it_was old new counts;
    sets = sets;
  }

  -- looks at the words of a set change nothing but the caller's list
  pub looked : {alters : AloneSets → AloneSets → Type 0} {l : Layout} {kind : Kind} {found : List (ℕ × ℕ)}
      → shows.LooksAround l kind found (in_pool old) (in_pool new) → SameCounts old new
      → Alters (pool_of queue) alters (in_pool old) (in_pool new) → Effect queue as_before AsBefore alters old new
  looked {alters} {l} {kind} {found} a counts sets = counts_won kind 0 (tallies.finds _ _ found a.looks.changed) counts
      a.looks.other (λ t. part_holding old new kind t (holds_same (in_pool old) (in_pool new) a.same)) sets
