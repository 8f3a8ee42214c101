-- The numbers so far are distinct.
use Rattle.std.proofs.Common.{◌≢◌, ℕ, ◌<◌, get_or}
use Rattle.tag_pool.proofs.clears.lists.are_distinct.Given as goal

abbrev pub invariant-loop-i : goal.invariant-loop-i
invariant-loop-i l = (j k : ℕ) → j < k → k < l.i → get_or l.tags j 0 ≢ get_or l.tags k 0
