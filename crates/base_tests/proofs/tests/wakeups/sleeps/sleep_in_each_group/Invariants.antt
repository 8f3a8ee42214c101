-- Between two sleeps the sleeper is in no group, so it may enter one again.
use Rattle.std.proofs.Common.{◌≡◌, None}
use Rattle.wake_book.specs.Groups.{IsWaiterOf, standing_of}
use Rattle.base_tests.proofs.tests.wakeups.sleeps.sleep_in_each_group.Given as goal

abbrev pub invariant-loop-group : goal.invariant-loop-group
invariant-loop-group g l = record {
  groups : IsWaiterOf l.groups l.sleeper × IsWaiterOf l.groups l.other;
  out : standing_of l.sleeper ≡ None;
}
