-- No step of it waits.
use Rattle.tag_queue.proofs.StillUp.{read_up}
use Rattle.tag_queue.proofs.queue.Queue.read_held.Goals as goal

pub invariant_of-hand-clause-up : goal.invariant_of-hand-clause-up
invariant_of-hand-clause-up g c = let hand = c.args.hand.now in let call = c.read_held in
    read_up c.args.tag call.result hand.inner call.new.hand call.ensures.reads hand.up
