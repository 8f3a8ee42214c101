-- No step of it waits.
use Rattle.tag_queue.proofs.StillUp.{write_up}
use Rattle.tag_queue.proofs.queue.Queue.write_held.Goals as goal

pub invariant_of-hand-clause-up : goal.invariant_of-hand-clause-up
invariant_of-hand-clause-up g c = let hand = c.args.hand.now in let call = c.write_held in
    write_up c.args.tag c.args.value hand.inner call.new.hand call.ensures.writes hand.up
