-- The waiter stays one of the groups'.
use Rattle.wake_book.specs.Groups.{IsWaiterOf}
use Rattle.base_tests.proofs.tests.wakeups.threads.wait_or_wake.Given as goal

abbrev pub invariant-loop : goal.invariant-loop
invariant-loop g l = record {
  turns : (goal.iterator-loop g).can_next l.iterator' × (goal.iterator-loop g).is_finite l.iterator';
  groups : IsWaiterOf l.groups l.waiter;
}
