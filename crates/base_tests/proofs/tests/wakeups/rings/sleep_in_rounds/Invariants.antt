-- Between two rounds the waiter is in no group, so it may enter one again.
use Rattle.std.proofs.Common.{◌≡◌, None}
use Rattle.wake_book.specs.Groups.{IsWaiterOf, standing_of}
use Rattle.base_tests.proofs.tests.wakeups.rings.sleep_in_rounds.Given as goal

abbrev pub invariant-loop-round : goal.invariant-loop-round
invariant-loop-round g l = record {
  groups : IsWaiterOf l.groups l.waiter;
  out : standing_of l.waiter ≡ None;
}
