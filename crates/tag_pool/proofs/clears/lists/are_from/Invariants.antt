-- The numbers so far are not below the first.
use Rattle.std.proofs.Common.{ℕ, ◌<◌, ◌≤◌, get_or}
use Rattle.tag_pool.proofs.clears.lists.are_from.Given as goal

abbrev pub invariant-loop-tag : goal.invariant-loop-tag
invariant-loop-tag l = (k : ℕ) → k < l.tag-index → l.first ≤ get_or l.tags k 0
