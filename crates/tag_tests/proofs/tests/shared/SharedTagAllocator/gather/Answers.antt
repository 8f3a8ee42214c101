-- The hands of all callers belong to the pool, which `into_parts` returns and a failed gather hands back.
use Rattle.tag_tests.proofs.Uses.{All, ap, Hand, IsHandOf, List, subst, sym, Pool, ℕ}
use Rattle.tag_tests.proofs.tests.shared.SharedTagAllocator.gather.Goals as goal

pub gather-requires : goal.gather-requires
gather-requires c = subst (λ (t : Pool ℕ). All (IsHandOf t) c.in-Ok.hands.items) (sym c.into_parts-pool.ensures)
    c.in-Ok.ensures

pub of-shared-requires : goal.of-shared-requires
of-shared-requires c = let back = c.in-Err.ensures.err in
    subst (λ (t : Pool ℕ). All (IsHandOf t) c.in-Err.fault.hands.items) (sym back.0)
    (subst (λ (hands : List (Hand ℕ)). All (IsHandOf c.into_parts-pool.result.0) hands) (sym (ap (λ v. v.items) back.1))
    (subst (λ (t : Pool ℕ). All (IsHandOf t) c.in-Ok.hands.items) (sym c.into_parts-pool.ensures) c.in-Ok.ensures))
