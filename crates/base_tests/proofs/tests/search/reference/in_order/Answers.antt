-- The number pushed is the next in order.
use Rattle.std.proofs.Common.{ℕ, List, [], ◌∷◌, ◌++◌, ap, ◌∙◌}
use Rattle.tag_search.specs.Order.{numbers}
use Rattle.tag_search.proofs.Orders.{numbers_more, numbers_behind}
use Rattle.base_tests.proofs.tests.search.reference.in_order.Goals as goal

pub loop-number-preserved : goal.loop-number-preserved
loop-number-preserved c =
    c.in_ok-push.ensures.items ∙ ap (λ (xs : List ℕ). xs ++ c.loop-number.number ∷ []) c.loop-number.invariant
    ∙ numbers_more c.args.start c.loop-number.number c.args.limit c.loop-number.auto.number c.loop-number-test.true

pub loop-number-then-wrap-preserved : goal.loop-number-then-wrap-preserved
loop-number-then-wrap-preserved c =
    let k = c.loop-number-then-wrap.number in
    c.in_ok-push-2.ensures.items ∙ ap (λ (xs : List ℕ). xs ++ k ∷ []) c.loop-number-then-wrap.invariant
    ∙ numbers_behind (numbers c.args.start c.args.limit) k
