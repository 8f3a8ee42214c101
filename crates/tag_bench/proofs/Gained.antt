-- What a get won is held.
use Rattle.tag_bench.proofs.Uses.{Caller, Gains, IfSome, Layout, None, Option, refl, Some, ℕ}
use Rattle.tag_core.specs.Callers.{Holds}

pub holds_answer : {R : Type 0} (l : Layout) (answer : Option ℕ) (old new : Caller R) → Gains l answer old new
    → IfSome answer (Holds new)
holds_answer l None old new gains = tt
holds_answer l (Some tag) old new gains = gains.acquires.joined tag refl
