-- The threads joined so far kept their promises, and there is room for the hands of the others.
use Rattle.std.proofs.Common.{◌+◌, ◌≤◌, vec_len, vec_capacity}
use Rattle.loop_device.specs.Promises.{AreJoined}
use Rattle.loop_device.proofs.threads.join_down_to.Given as goal

abbrev pub invariant-loop-handles : goal.invariant-loop-handles
invariant-loop-handles g l = record {
  joined : AreJoined l.initial.handles.items l.handles.items l.initial.back.items l.back.items l.initial.faults l.faults;
  room : vec_len l.back + vec_len l.handles ≤ vec_capacity l.back;
}

abbrev pub decreases-loop-handles : goal.decreases-loop-handles
decreases-loop-handles g l = vec_len l.handles
