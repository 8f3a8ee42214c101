-- The tags so far have left the mask.
use Rattle.std.specs.Prelude.{◌<◌, ◌↔◌, ◌≢◌}
use Rattle.tag_cache.proofs.Uses.{get_or, IsIn, IsKnown, ℕ}
use Rattle.tag_cache.proofs.cache.Cache.known_without_all.Given as goal

abbrev pub invariant-loop-tag : goal.invariant-loop-tag
invariant-loop-tag g l = (other : ℕ) → IsIn l.self.first l.left other
    ↔ (IsKnown l.self other × ((k : ℕ) → k < l.tag-index → get_or l.list k 0 ≢ other))
