-- Its looks give nothing back and list nobody.
use Rattle.tag_queue.proofs.Uses.{arith}
use Rattle.tag_queue.proofs.StillUp.{busy_back, busy_up}
use Rattle.tag_queue.proofs.queue.Queue.busy.Goals as goal

pub invariant_of-hand-clause-counts : goal.invariant_of-hand-clause-counts
invariant_of-hand-clause-counts g c = let hand = c.args.hand.now in let call = c.busy in
    let back = busy_back c.args.self.now.pool call.new.into call.result hand.inner call.new.hand call.ensures.lists in
    let counts = hand.counts in omega arith

pub invariant_of-hand-clause-up : goal.invariant_of-hand-clause-up
invariant_of-hand-clause-up g c = let hand = c.args.hand.now in let call = c.busy in
    busy_up c.args.self.now.pool call.new.into call.result hand.inner call.new.hand call.ensures.lists hand.up
