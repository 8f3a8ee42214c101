-- The waiter stays one of the groups'.
use Rattle.wake_book.specs.Groups.{IsWaiterOf}
use Rattle.base_tests.proofs.tests.wakeups.rings.wake_in_rounds.Given as goal

abbrev pub invariant-loop-round : goal.invariant-loop-round
invariant-loop-round g l = IsWaiterOf l.groups l.waiter
