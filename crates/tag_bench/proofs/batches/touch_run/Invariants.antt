-- The caller stays one of the map, and holds each tag of the batch.
use Rattle.std.proofs.Common.{◌≡◌, ℕ, ◌+◌}
use Rattle.std.specs.Int.{bit_at}
use Rattle.tag_core.specs.Callers.{IsCallerOf, Holds}
use Rattle.tag_bench.proofs.batches.touch_run.Given as goal

abbrev pub invariant-loop-place : goal.invariant-loop-place
invariant-loop-place l = record {
  caller : IsCallerOf l.map l.caller;
  held : (k : ℕ) → bit_at l.won k ≡ 1
      → Holds l.caller (l.first + k);
}
