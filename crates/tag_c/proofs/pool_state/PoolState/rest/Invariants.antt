-- No cell so far took the hand, so it is still the one that was passed in.
use Rattle.std.proofs.Common.{◌≡◌}
use Rattle.tag_c.proofs.pool_state.PoolState.rest.Given as goal

abbrev pub invariant-loop-i : goal.invariant-loop-i
invariant-loop-i l = l.hand ≡ l.fn.hand
