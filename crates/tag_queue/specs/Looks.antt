-- What a hand does about ordinary tags that its get freed and did not take.
use Rattle.std.specs.Prelude.{◌∷◌, ◌≡◌, ◌≤◌}
use Rattle.tag_queue.specs.Uses.{active_at, Hand, left_free, Look, min, Nudged, Ordinary, RingsNobody, RingsOnce, sighted_beside, sighted_steps, StandsAsBefore, ℕ}
use Rattle.tag_queue.specs.declared.hand.QueueHand.{QueueHand}
use Rattle.tag_queue.specs.Hands.{in_pool, waiter_of, sighting_of, group_steps, SameCounts, SameTags}

-- the hand loaded the active count after all that it did in the pool, and rang once for as many sleepers of every group
-- as that load found active, but no more than were left
pub record LooksAndRings {R : Type 0} (left : ℕ) (old new : QueueHand R) : Type 0 where
  pub active : ℕ
  pub step : group_steps new ≡ Look active_at active ∷ group_steps old
  pub after_pool : sighted_beside (sighting_of new) ≡ in_pool new
  pub last_step : sighted_steps (sighting_of new) ≡ group_steps new
  pub rings : 1 ≤ active → RingsOnce (Nudged (min active left)) (waiter_of old) (waiter_of new)
  pub silent : active ≡ 0 → RingsNobody (waiter_of old) (waiter_of new)

-- a hand whose get left this many tags free looks for sleepers and rings them, and otherwise nothing changes
pub record LooksAfter {R : Type 0} (left : ℕ) (old new : QueueHand R) : Type 0 where
  pub none : left ≡ 0 → new ≡ old
  pub some : 1 ≤ left → LooksAndRings left old new
  pub same : SameTags old new
  pub stands : StandsAsBefore (waiter_of old) (waiter_of new)

-- a get in the pool, and then the look for waiters that it calls for
pub record GetsAndLooks {R : Type 0} (Gets : Hand R → Hand R → Type 0) (old new : QueueHand R) : Type 0 where
  pub searched : QueueHand R
  pub gets : Gets (in_pool old) (in_pool searched)
  pub counts : SameCounts old searched
  pub looks : LooksAfter (left_free Ordinary (in_pool old) (in_pool searched)) searched new
