-- A refusal by the pool leaves the hand as it was.
use Rattle.tag_queue.proofs.SameParts.{same_hand, same_on_err}
use Rattle.tag_queue.proofs.StillUp.{get_batch_up}
use Rattle.tag_queue.proofs.queue.Queue.get_batch_quietly.Goals as goal

pub invariant_of-hand-clause-up : goal.invariant_of-hand-clause-up
invariant_of-hand-clause-up g c = let hand = c.args.hand.now in let call = c.get_batch_quietly in
    get_batch_up c.args.self.now.pool hand.inner call.new.hand c.args.n call.result call.ensures.does hand.up

pub returns-clause-err : goal.returns-clause-err
returns-clause-err g c = let call = c.get_batch_quietly in
    same_on_err c.args.hand.now call.result call.new.hand call.ensures.does.refusals.same _ _ _ _

pub returns-clause-round_robin : goal.returns-clause-round_robin
returns-clause-round_robin g c = λ counts robin. let call = c.get_batch_quietly in
    same_hand c.args.hand.now call.new.hand (call.ensures.does.round_robin counts robin).1 _ _ _ _
