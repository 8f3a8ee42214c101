-- Each hand of the pool is unchanged, and nothing else of its hand is touched.
use Rattle.tag_queue.proofs.SameParts.{same_hand}
use Rattle.tag_queue.proofs.StillUp.{still}
use Rattle.tag_queue.proofs.queue.Queue.apart.Goals as goal

pub invariant_of-first-clause-up : goal.invariant_of-first-clause-up
invariant_of-first-clause-up g c = still _ _ c.apart.ensures.same.0 c.args.first.now.up

pub invariant_of-second-clause-up : goal.invariant_of-second-clause-up
invariant_of-second-clause-up g c = still _ _ c.apart.ensures.same.1 c.args.second.now.up

pub returns-clause-same : goal.returns-clause-same
returns-clause-same g c = let same = c.apart.ensures.same in (
  same_hand c.args.first.now _ same.0 _ _ _ _,
  same_hand c.args.second.now _ same.1 _ _ _ _,
)
