-- A submitter's push keeps the rule, and one that finds no room has seen the rule's workers.
use Rattle.loop_device.proofs.QueueMoves.{pushes, seen}
use Rattle.loop_device.proofs.device_queue.push.Goals as goal

pub push_as-requires-clause-rule : goal.push_as-requires-clause-rule
push_as-requires-clause-rule g c = (pushes _ _ _ _ _ c.requires.submitter c.requires.tag, seen _ _ _)
