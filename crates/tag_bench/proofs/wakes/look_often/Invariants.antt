-- The waiter stays one of the groups.
use Rattle.wake_book.specs.Groups.{IsWaiterOf}
use Rattle.tag_bench.proofs.wakes.look_often.Given as goal

abbrev pub invariant-loop : goal.invariant-loop
invariant-loop l = IsWaiterOf l.groups l.waiter
