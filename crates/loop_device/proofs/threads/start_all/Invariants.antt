-- The hands that are left are fresh, the threads that run have promised their parts, and there is room for as many more.
use Rattle.loop_device.proofs.Uses.{HavePromised, IsFreshOf, IsPassOf, vec_capacity, vec_len}
use Rattle.std.proofs.Common.{All, ◌≡◌, ◌+◌, ◌≤◌}
use Rattle.std.specs.Vec.Iter.{into_iter_items, into_iter_len}
use Rattle.loop_device.proofs.threads.start_all.Given as goal

abbrev pub invariant-loop-hand : goal.invariant-loop-hand
invariant-loop-hand g l = record {
  steps : (goal.iterator-loop-hand g).can_next l.hand-iterator × (goal.iterator-loop-hand g).is_finite l.hand-iterator;
  rest : All (IsFreshOf l.device.tags) (into_iter_items l.hand-iterator);
  pass : IsPassOf l.device.queue l.pass;
  handles : HavePromised l.device.tags l.setup l.log.ios.items l.handles.items;
  room : vec_len l.handles + into_iter_len l.hand-iterator ≤ vec_capacity l.handles;
  len : vec_len l.handles + into_iter_len l.hand-iterator ≡ vec_len l.fn.hands;
}
