-- An assignment keeps the rule.
use Rattle.std.proofs.Common.{rules}
use Rattle.posted_queue.proofs.AssignedMoves.{assigns}
use Rattle.posted_queue.proofs.assigned.Assignments.assign.Goals as goal

pub store-requires : goal.store-requires
store-requires c = (search rules, search rules, assigns _ _ _ _ _)
