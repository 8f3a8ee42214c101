-- The hands collected so far belong to the tags, and follow the spare ones.
use Rattle.tag_c.proofs.Uses.{Hand, IsHandOf, List, ℕ}
use Rattle.std.specs.Prelude.{All, ◌++◌, ◌≡◌}
use Rattle.tag_c.proofs.pool_state.PoolState.collect.Given as goal

abbrev pub invariant-loop-cell : goal.invariant-loop-cell
invariant-loop-cell l = record {
  own : All (IsHandOf l.self.tags) l.hands.items;
  kept : (left : List (Hand ℕ)) × (l.hands.items ≡ l.fn.spare.items ++ left);
}
