-- None of the tags so far is kept.
use Rattle.std.specs.Prelude.{◌<◌}
use Rattle.tag_cache.proofs.Uses.{get_or, IsKept, ℕ}
use Rattle.tag_cache.proofs.cache.Cache.keeps_none_of.Given as goal

abbrev pub invariant-loop-tag : goal.invariant-loop-tag
invariant-loop-tag g l = (k : ℕ) → k < l.tag-index → ¬ (IsKept l.self (get_or l.list k 0))
