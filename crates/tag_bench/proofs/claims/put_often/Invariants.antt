-- The caller stays one of the map.
use Rattle.tag_core.specs.Callers.{IsCallerOf}
use Rattle.tag_bench.proofs.claims.put_often.Given as goal

abbrev pub invariant-loop : goal.invariant-loop
invariant-loop l = IsCallerOf l.map l.caller

abbrev pub invariant-loop-tag : goal.invariant-loop-tag
invariant-loop-tag l = IsCallerOf l.map l.caller
