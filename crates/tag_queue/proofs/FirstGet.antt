-- Only the first get of a call that waits can be refused: each later one follows a get that won nothing.
use Rattle.std.specs.Prelude.{◌≡◌, ◌⊎◌}
use Rattle.tag_queue.proofs.Uses.{HasRoom, in_pool, Ordinary, QueueHand, subst, ⊎_elim}

module _ {R : Type 0} where
  -- the hand may win one more tag
  abbrev pub IsRoomy : QueueHand R → Type 0
  IsRoomy hand = HasRoom (in_pool hand) Ordinary 1

  -- the hand is still as the call found it, or could win a tag then and can win one now
  abbrev pub IsFirstOrRoomy : QueueHand R → QueueHand R → Type 0
  IsFirstOrRoomy first now = (now ≡ first) ⊎ (IsRoomy first × IsRoomy now)

  -- if a get has room, the call had
  pub had_room : (first now : QueueHand R) → IsFirstOrRoomy first now → IsRoomy now → IsRoomy first
  had_room first now may room = ⊎_elim (λ (same : now ≡ first). subst IsRoomy same room)
      (λ (both : IsRoomy first × IsRoomy now). both.0) may
