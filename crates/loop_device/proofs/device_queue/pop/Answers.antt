-- A pop keeps the rule.
use Rattle.loop_device.proofs.QueueMoves.{pops}
use Rattle.loop_device.proofs.device_queue.pop.Goals as goal

pub pop_as-requires-clause-rule : goal.pop_as-requires-clause-rule
pop_as-requires-clause-rule g c = (pops _ _ _, λ items workers h at. tt)
