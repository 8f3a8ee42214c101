-- A look keeps the rule.
use Rattle.std.proofs.Common.{rules}
use Rattle.posted_queue.proofs.AssignedMoves.{looks}
use Rattle.posted_queue.proofs.assigned.Assignments.look_up.Goals as goal

pub load-requires : goal.load-requires
load-requires c = (search rules, search rules, looks _ _ _ _)
