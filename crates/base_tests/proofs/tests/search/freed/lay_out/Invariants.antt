-- The caller stays one of the map's.
use Rattle.tag_core.specs.Callers.{IsCallerOf}
use Rattle.base_tests.proofs.tests.search.freed.lay_out.Given as goal

abbrev pub invariant-loop-tag : goal.invariant-loop-tag
invariant-loop-tag l = IsCallerOf l.map l.caller

abbrev pub invariant-loop-tag-2 : goal.invariant-loop-tag-2
invariant-loop-tag-2 l = IsCallerOf l.map l.caller
