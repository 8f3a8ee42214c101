-- The caller stays one of the map's.
use Rattle.tag_core.specs.Callers.{IsCallerOf}
use Rattle.base_tests.proofs.tests.map.threads.take_posted.Given as goal

abbrev pub invariant-loop-tag : goal.invariant-loop-tag
invariant-loop-tag l = IsCallerOf l.map l.caller
