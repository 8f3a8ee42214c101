-- Only the hints change, so no tag is given back and nobody is listed.
use Rattle.tag_queue.proofs.Uses.{ap, arith, Ordinary}
use Rattle.tag_core.specs.Callers.{record_of}
use Rattle.tag_core.specs.declared.caller.Caller.{Caller}
use Rattle.tag_queue.proofs.StillUp.{placed_up}
use Rattle.tag_queue.proofs.queue.Queue.place.Goals as goal

pub invariant_of-hand-clause-counts : goal.invariant_of-hand-clause-counts
invariant_of-hand-clause-counts g c = let counts = c.args.hand.now.counts in
    let back = ap (λ (k : Caller g.row.R.Denot). (record_of k).back) (c.place.ensures.placed.sides Ordinary).caller in
    omega arith

pub invariant_of-hand-clause-up : goal.invariant_of-hand-clause-up
invariant_of-hand-clause-up g c = let hand = c.args.hand.now in let call = c.place in
    placed_up c.args.self.now.pool hand.inner call.new.hand call.ensures.placed hand.up
