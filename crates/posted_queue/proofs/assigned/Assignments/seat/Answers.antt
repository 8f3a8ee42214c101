-- A hand more keeps the rule.
use Rattle.std.proofs.Common.{refl, rules}
use Rattle.posted_queue.proofs.AssignedMoves.{joins}
use Rattle.posted_queue.proofs.assigned.Assignments.seat.Goals as goal

pub load_new_seat-requires : goal.load_new_seat-requires
load_new_seat-requires c = (search rules, joins _ _ _ refl)
