-- The caller stays one of the map's.
use Rattle.tag_core.specs.Callers.{IsCallerOf}
use Rattle.base_tests.proofs.tests.map.resizing_threads.clear.Given as goal

abbrev pub invariant-loop-place : goal.invariant-loop-place
invariant-loop-place l = IsCallerOf l.map l.caller
