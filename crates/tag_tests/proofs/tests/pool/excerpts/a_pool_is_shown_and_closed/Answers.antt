-- The failed gather handed back what was passed in, so with the missing hand all belong to the same pool.
use Rattle.tag_tests.proofs.Uses.{[], All, All-push, ap, IsHandOf, subst, sym, Pool, ℕ, ◌∙◌}
use Rattle.std.proofs.Common.{◌∷◌, ◌++◌}
use Rattle.tag_tests.proofs.tests.pool.excerpts.a_pool_is_shown_and_closed.Goals as goal

pub gather-requires-2 : goal.gather-requires-2
gather-requires-2 g c =
    let pool = c.in_ok-pool.pool in let same = c.in-Err.ensures.err in
    let items = c.in_ok-push.ensures.items ∙ ap (λ v. v.items ++ c.post.new.hand ∷ []) same.1 in
    subst (λ (t : Pool ℕ). All (IsHandOf t) c.push.new.self.items) (sym same.0)
    (subst (All (IsHandOf pool)) (sym items)
    (All-push (IsHandOf pool) c.next_hand.new.hands.items c.post.new.hand c.next_hand.ensures.own c.post.ensures.hand.0))
