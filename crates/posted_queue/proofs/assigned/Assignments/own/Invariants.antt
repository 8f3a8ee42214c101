-- Each tag so far goes by its own number.
use Rattle.std.specs.Prelude.{◌≡◌, length}
use Rattle.posted_queue.proofs.AssignedMoves.{AreOwn}
use Rattle.posted_queue.proofs.assigned.Assignments.own.Given as goal

abbrev pub invariant-loop-number : goal.invariant-loop-number
invariant-loop-number l = record { count : length l.own.items ≡ l.number; own : AreOwn l.own.items }
