-- A refusal by the pool leaves the hand as it was.
use Rattle.tag_queue.proofs.SameParts.{same_on_err}
use Rattle.tag_queue.proofs.StillUp.{posts_up}
use Rattle.tag_queue.proofs.queue.Queue.post_noted.Goals as goal

pub invariant_of-hand-clause-up : goal.invariant_of-hand-clause-up
invariant_of-hand-clause-up g c = let hand = c.args.hand.now in let call = c.post_noted in
    posts_up c.args.self.now.pool hand.inner call.new.hand c.args.tag c.args.note call.result call.ensures.does hand.up

pub returns-clause-err : goal.returns-clause-err
returns-clause-err g c = let call = c.post_noted in
    same_on_err c.args.hand.now call.result call.new.hand call.ensures.does.refusals.same _ _ _ _
