-- The callers that are still to come belong to the pool, and so does each hand so far.
use Rattle.tag_tests.proofs.Uses.{All, hand_in, into_iter_items, IsHandOf}
use Rattle.tag_tests.proofs.tests.shared.callers.hands_of.Given as goal

abbrev pub invariant-loop-caller : goal.invariant-loop-caller
invariant-loop-caller l = record {
  steps : goal.iterator-loop-caller.can_next l.caller-iterator × goal.iterator-loop-caller.is_finite l.caller-iterator;
  rest : All (λ caller. IsHandOf l.pool (hand_in caller)) (into_iter_items l.caller-iterator);
  own : All (IsHandOf l.pool) l.hands.items;
}
