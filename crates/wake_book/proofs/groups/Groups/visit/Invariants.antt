-- Each turn so far found somebody waiting and lost its exchange, so nobody was moved.
use Rattle.std.specs.Prelude.{◌≡◌}
use Rattle.wake_book.proofs.Uses.{IsWaiterOf, LosesGrants, StandsSilent}
use Rattle.wake_book.specs.Groups.{steps_of}
use Rattle.wake_book.proofs.groups.Groups.visit.Given as goal

abbrev pub invariant-loop : goal.invariant-loop
invariant-loop l = record {
  groups : IsWaiterOf l.self l.waiter × StandsSilent l.fn.waiter l.waiter;
  moved : l.waiter.moved ≡ l.fn.waiter.moved;
  tries : LosesGrants l.counter l.group l.most (steps_of l.fn.waiter) (steps_of l.waiter);
}
