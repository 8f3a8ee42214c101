-- Neither hand changes in the pool.
use Rattle.tag_queue.proofs.Uses.{ap, arith, Ordinary}
use Rattle.tag_core.specs.declared.record.Record.{Record}
use Rattle.tag_queue.proofs.StillUp.{unchanged_up}
use Rattle.tag_queue.proofs.queue.Queue.meet.Goals as goal

pub invariant_of-first-clause-counts : goal.invariant_of-first-clause-counts
invariant_of-first-clause-counts g c = let counts = c.args.first.now.counts in
    let back = ap (λ (r : Record g.row.R.Denot). r.back) (c.meet.ensures.unchanged.0.sets Ordinary).caller.known in
    omega arith

pub invariant_of-first-clause-up : goal.invariant_of-first-clause-up
invariant_of-first-clause-up g c = unchanged_up _ _ c.meet.ensures.unchanged.0 c.args.first.now.up

pub invariant_of-second-clause-counts : goal.invariant_of-second-clause-counts
invariant_of-second-clause-counts g c = let counts = c.args.second.now.counts in
    let back = ap (λ (r : Record g.row.R.Denot). r.back) (c.meet.ensures.unchanged.1.sets Ordinary).caller.known in
    omega arith

pub invariant_of-second-clause-up : goal.invariant_of-second-clause-up
invariant_of-second-clause-up g c = unchanged_up _ _ c.meet.ensures.unchanged.1 c.args.second.now.up
