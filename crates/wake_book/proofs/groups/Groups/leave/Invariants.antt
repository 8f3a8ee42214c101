-- Until the waiter leaves, it stays in its group, and each turn added a look and a lost exchange.
use Rattle.std.specs.Prelude.{◌≡◌}
use Rattle.wake_book.proofs.Uses.{Idles, IsWaiterOf, moved_of, Some, standing_of, StandsSilent, ℕ}
use Rattle.wake_book.specs.Groups.{steps_of}
use Rattle.wake_book.proofs.groups.Groups.leave.Given as goal

abbrev pub invariant-loop : goal.invariant-loop
invariant-loop g l = record {
  turns : (goal.iterator-loop g).can_next l.iterator' × (goal.iterator-loop g).is_finite l.iterator';
  groups : IsWaiterOf l.self l.waiter × StandsSilent l.fn.waiter l.waiter;
  moved : moved_of l.waiter ≡ moved_of l.fn.waiter;
  idle : (group : ℕ) × (standing_of l.fn.waiter ≡ Some group)
      × (idles : ℕ) × Idles idles group (steps_of l.fn.waiter) (steps_of l.waiter);
}
