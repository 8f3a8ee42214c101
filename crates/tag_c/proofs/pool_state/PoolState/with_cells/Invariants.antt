-- There is a cell for each hand so far, and room for one for each other hand.
use Rattle.tag_c.proofs.Uses.{IsHandOf, length, vec_capacity, vec_len}
use Rattle.std.specs.Prelude.{All, ◌≡◌, ◌≤◌}
use Rattle.tag_c.proofs.pool_state.PoolState.with_cells.Given as goal

abbrev pub invariant-loop-hand : goal.invariant-loop-hand
invariant-loop-hand l = record {
  own : All (IsHandOf l.tags) l.cells.items;
  count : vec_len l.cells ≡ l.hand-index;
  room : length l.hands ≤ vec_capacity l.cells;
}
