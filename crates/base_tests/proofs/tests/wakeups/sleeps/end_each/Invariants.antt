-- The waiter stays one of the groups'.
use Rattle.wake_book.specs.Groups.{IsWaiterOf}
use Rattle.base_tests.proofs.tests.wakeups.sleeps.end_each.Given as goal

abbrev pub invariant-loop-sleep : goal.invariant-loop-sleep
invariant-loop-sleep g l = IsWaiterOf l.groups l.waiter
