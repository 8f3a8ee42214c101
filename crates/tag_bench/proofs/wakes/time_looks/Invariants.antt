-- The waiters stay those of the groups.
use Rattle.tag_bench.proofs.Uses.{All, IsWaiterOf}
use Rattle.tag_bench.proofs.wakes.time_looks.Given as goal

abbrev pub invariant-loop-run : goal.invariant-loop-run
invariant-loop-run g l = All (IsWaiterOf l.groups) l.waiters.items
