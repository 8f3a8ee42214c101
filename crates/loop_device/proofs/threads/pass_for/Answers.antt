-- One thread more that has pushed and popped nothing keeps the rule of the queue, whatever its role.
use Rattle.std.proofs.Common.{true, false}
use Rattle.loop_device.proofs.QueueMoves.{forks}
use Rattle.loop_device.proofs.threads.pass_for.Goals as goal

pub another-requires-clause-rule : goal.another-requires-clause-rule
another-requires-clause-rule g c = forks _ _ _ true

pub another-requires-else-submits-clause-rule : goal.another-requires-else-submits-clause-rule
another-requires-else-submits-clause-rule g c = forks _ _ _ false
