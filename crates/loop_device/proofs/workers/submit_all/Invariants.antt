-- Hand and pass stay those of the play and of a submitter, and the lines of the share so far are submitted.
use Rattle.loop_device.proofs.Uses.{begins, IsHandOf, IsPassOf, ruled_capacity, share_of, Submits, take, TakesTurns, true, view}
use Rattle.std.proofs.Common.{◌≡◌}
use Rattle.loop_device.proofs.workers.submit_all.Given as goal

abbrev pub invariant-loop-index : goal.invariant-loop-index
invariant-loop-index g l = record {
  hand : IsHandOf l.device.tags l.hand;
  pass : IsPassOf l.device.queue l.pass;
  submitter : (view l.pass).submits ≡ true;
  submitted : TakesTurns (Submits l.device.tags (ruled_capacity l.device.queue) l.log.ios.items)
      (share_of l.number l.submitters (take l.index l.log.ios.items))
      (begins l.initial.hand (view l.initial.pass))
      (record { hand = l.hand; view = view l.pass; faults = l.faults });
}
