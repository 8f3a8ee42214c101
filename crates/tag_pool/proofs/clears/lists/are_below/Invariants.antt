-- The numbers so far are below the depth.
use Rattle.std.proofs.Common.{ℕ, ◌<◌, get_or}
use Rattle.tag_pool.proofs.clears.lists.are_below.Given as goal

abbrev pub invariant-loop-tag : goal.invariant-loop-tag
invariant-loop-tag l = (k : ℕ) → k < l.tag-index → get_or l.tags k 0 < l.depth
