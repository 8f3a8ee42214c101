-- How hands enter wait groups.
use Rattle.std.specs.Prelude.{◌%◌, ◌+◌, ◌∷◌, ◌≡◌}
use Rattle.tag_queue.specs.Uses.{Enter, Raise, Some, wait_index_of, ℕ}
use Rattle.tag_queue.specs.declared.hand.QueueHand.{QueueHand}
use Rattle.tag_queue.specs.Hands.{waiter_of, standing_of, group_steps, SameTags}

-- the hand raised the active count and entered the group of its wait index, which then advanced by one
pub record Enters {R : Type 0} (group : ℕ) (old new : QueueHand R) : Type 0 where
  pub group_is : group ≡ wait_index_of (waiter_of old)
  pub stands : standing_of new ≡ Some group
  pub next : wait_index_of (waiter_of new) ≡ (wait_index_of (waiter_of old) + 1) % 8
  pub active : ℕ
  pub found : ℕ
  pub steps : group_steps new ≡ Enter group found ∷ Raise active ∷ group_steps old
  pub same : SameTags old new
