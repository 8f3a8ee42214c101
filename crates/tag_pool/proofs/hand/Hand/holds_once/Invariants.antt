-- The tags so far are held.
use Rattle.std.specs.Prelude.{◌<◌}
use Rattle.tag_pool.proofs.Uses.{get_or, Holds, ℕ}
use Rattle.tag_pool.proofs.hand.Hand.holds_once.Given as goal

abbrev pub invariant-loop-tag : goal.invariant-loop-tag
invariant-loop-tag g l = (k : ℕ) → k < l.tag-index → Holds l.self (get_or l.tags k 0)
