-- The hands of all callers belong to the pool, which `into_parts` returns.
use Rattle.tag_tests.proofs.Uses.{All, IsHandOf, subst, sym, Pool, ℕ}
use Rattle.tag_tests.proofs.tests.shared.SharedTagAllocator.resize.Goals as goal

pub resize-requires : goal.resize-requires
resize-requires c = subst (λ (t : Pool ℕ). All (IsHandOf t) c.in-Ok.hands.items) (sym c.into_parts-pool.ensures)
    c.in-Ok.ensures
