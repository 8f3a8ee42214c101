-- Between two sleeps the waiter is in no group, so it may enter one again.
use Rattle.std.proofs.Common.{◌≡◌, None}
use Rattle.wake_book.specs.Groups.{IsWaiterOf, standing_of}
use Rattle.base_tests.proofs.tests.wakeups.sleeps.sleep_on.Given as goal

abbrev pub invariant-loop-sleep : goal.invariant-loop-sleep
invariant-loop-sleep g l = record {
  groups : IsWaiterOf l.groups l.waiter;
  out : standing_of l.waiter ≡ None;
}
