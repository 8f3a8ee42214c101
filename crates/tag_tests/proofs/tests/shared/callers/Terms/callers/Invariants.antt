-- The hands that are still to come belong to the pool, and so does each caller so far.
use Rattle.tag_tests.proofs.Uses.{All, hand_in, into_iter_items, IsHandOf}
use Rattle.tag_tests.proofs.tests.shared.callers.Terms.callers.Given as goal

abbrev pub invariant-loop-hand : goal.invariant-loop-hand
invariant-loop-hand l = record {
  steps : goal.iterator-loop-hand.can_next l.hand-iterator × goal.iterator-loop-hand.is_finite l.hand-iterator;
  rest : All (IsHandOf l.pool) (into_iter_items l.hand-iterator);
  own : All (λ caller. IsHandOf l.pool (hand_in caller)) l.callers.items;
}
