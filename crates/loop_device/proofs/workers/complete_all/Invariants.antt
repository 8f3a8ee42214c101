-- Hand and pass stay those of the play, and the numbers popped so far are served.
use Rattle.loop_device.proofs.Uses.{begins, IsHandOf, IsPassOf, ServesPopped, view}
use Rattle.loop_device.proofs.workers.complete_all.Given as goal

abbrev pub invariant-loop : goal.invariant-loop
invariant-loop g l = record {
  turns : (goal.iterator-loop g).can_next l.iterator' × (goal.iterator-loop g).is_finite l.iterator';
  hand : IsHandOf l.device.tags l.hand;
  pass : IsPassOf l.device.queue l.pass;
  served : ServesPopped l.device.tags l.log.ios.items (begins l.initial.hand (view l.initial.pass))
      (record { hand = l.hand; view = view l.pass; faults = l.faults });
}
