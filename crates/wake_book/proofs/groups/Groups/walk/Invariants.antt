-- The visits so far moved `nr - left` waiters, in cyclic order from the wake index, and as many in each group as its
-- entry says; there are at most eight visits.
use Rattle.std.specs.Prelude.{◌+◌, ◌-◌, ◌<◌, ◌≡◌, ◌≤◌}
use Rattle.wake_book.proofs.Uses.{get_or, granted_in, IsWaiterOf, length, StandsSilent, sum, total, ℕ}
use Rattle.wake_book.specs.Groups.{steps_of}
use Rattle.wake_book.proofs.Walking.{HasVisited}
use Rattle.wake_book.proofs.groups.Groups.walk.Given as goal

abbrev pub invariant-loop-left : goal.invariant-loop-left
invariant-loop-left l = record {
  groups : IsWaiterOf l.self l.waiter × StandsSilent l.fn.waiter l.waiter;
  few : (l.left ≤ l.nr) × (l.group < 8) × (l.visits ≤ 8);
  moved : l.waiter.moved + l.left ≡ l.fn.waiter.moved + l.nr;
  walk : HasVisited l.nr l.left l.group l.visits (steps_of l.fn.waiter) (steps_of l.waiter);
  eight : length l.in_group ≡ 8;
  sum_is : sum l.in_group + l.left ≡ l.nr;
  each : (group : ℕ) → group < 8 → total (granted_in group) (steps_of l.waiter)
      ≡ total (granted_in group) (steps_of l.fn.waiter) + get_or l.in_group group 0;
}

abbrev pub decreases-loop-left : goal.decreases-loop-left
decreases-loop-left l = 8 - l.visits
