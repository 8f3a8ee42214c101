-- The callers are those of the map on which they play next.
use Rattle.base_tests.proofs.Uses.{All, IsCallerOf}
use Rattle.base_tests.proofs.tests.map.resizing_threads.play_through.Given as goal

abbrev pub invariant-loop-depth : goal.invariant-loop-depth
invariant-loop-depth g l = All (IsCallerOf l.map) l.callers.items
