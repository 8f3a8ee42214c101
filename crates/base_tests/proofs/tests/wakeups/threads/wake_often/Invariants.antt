-- The waiter stays one of the groups'.
use Rattle.wake_book.specs.Groups.{IsWaiterOf}
use Rattle.base_tests.proofs.tests.wakeups.threads.wake_often.Given as goal

abbrev pub invariant-loop : goal.invariant-loop
invariant-loop g l = IsWaiterOf l.groups l.waiter

abbrev pub invariant-loop-2 : goal.invariant-loop-2
invariant-loop-2 g l = record {
  turns : (goal.iterator-loop-2 g).can_next l.iterator' × (goal.iterator-loop-2 g).is_finite l.iterator';
  groups : IsWaiterOf l.groups l.waiter;
}
