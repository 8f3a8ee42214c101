-- Its looks give nothing back and list nobody.
use Rattle.tag_queue.proofs.Uses.{arith}
use Rattle.tag_queue.proofs.StillUp.{look_back, look_up}
use Rattle.tag_queue.proofs.queue.Queue.dump.Goals as goal

pub invariant_of-hand-clause-counts : goal.invariant_of-hand-clause-counts
invariant_of-hand-clause-counts g c = let hand = c.args.hand.now in let call = c.dump in
    let back = look_back _ c.args.kind _ hand.inner call.new.hand call.ensures.dumps.packed.around in
    let counts = hand.counts in omega arith

pub invariant_of-hand-clause-up : goal.invariant_of-hand-clause-up
invariant_of-hand-clause-up g c = let hand = c.args.hand.now in let call = c.dump in
    look_up _ c.args.kind _ hand.inner call.new.hand call.ensures.dumps.packed.around hand.up
