-- The caller stays one of the map.
use Rattle.tag_core.specs.Callers.{IsCallerOf}
use Rattle.tag_bench.proofs.batches.BatchesJobMapU64.work.Given as goal

abbrev pub invariant-loop-round : goal.invariant-loop-round
invariant-loop-round l = IsCallerOf l.map l.caller
