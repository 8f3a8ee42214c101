-- No step of it waits, and a number that is no tag's leaves the hand as it was.
use Rattle.tag_queue.proofs.SameParts.{same_on_no_tag}
use Rattle.tag_queue.proofs.StillUp.{takes_up}
use Rattle.tag_queue.proofs.queue.Queue.take.Goals as goal

pub invariant_of-hand-clause-up : goal.invariant_of-hand-clause-up
invariant_of-hand-clause-up g c = let hand = c.args.hand.now in let call = c.take in
    takes_up c.args.self.now.pool hand.inner call.new.hand c.args.tag call.result call.ensures.does hand.up

pub returns-clause-unchanged : goal.returns-clause-unchanged
returns-clause-unchanged g c = let call = c.take in
    same_on_no_tag c.args.hand.now c.args.tag call.result call.new.hand call.ensures.does.refuses _ _ _ _
