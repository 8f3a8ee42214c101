-- The caller acquires the tags of the answer.
use Rattle.tag_bench.proofs.Uses.{bit_at, Caller, GainsRun, IfSome, Layout, None, Option, refl, Some, ℕ}
use Rattle.std.proofs.Common.{◌≡◌, ◌+◌}
use Rattle.tag_core.specs.Callers.{Holds}
use Rattle.tag_bench.proofs.batches.win_run.Goals as goal

holds-run : {R : Type 0} (l : Layout) (answer : Option (ℕ × ℕ)) (old new : Caller R) → GainsRun l answer old new
    → IfSome answer (λ run. (k : ℕ) → bit_at run.1 k ≡ 1 → Holds new (run.0 + k))
holds-run l None old new gains = tt
holds-run l (Some run) old new gains = λ k one. gains.acquires.joined (run.0 + k) (k, refl, one)

pub returns-clause-held : goal.returns-clause-held
returns-clause-held c = holds-run _ _ _ _ c.in-Ok.ensures.gains
