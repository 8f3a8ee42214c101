-- Each hand that is left belongs to the pool, and so does each cache; there is room for the rest.
use Rattle.tag_bench.proofs.Uses.{All, IsCacheOf, IsHandOf, vec_capacity, vec_len}
use Rattle.std.proofs.Common.{◌+◌, ◌≤◌}
use Rattle.tag_bench.proofs.shared_cache.CachedTagAllocator.open.Given as goal

abbrev pub invariant-loop-hand : goal.invariant-loop-hand
invariant-loop-hand l = record {
  left : All (IsHandOf l.pool) l.hands.items;
  own : All (IsCacheOf l.pool) l.caches.items;
  fit : vec_len l.caches + vec_len l.hands ≤ vec_capacity l.caches;
}

abbrev pub decreases-loop-hand : goal.decreases-loop-hand
decreases-loop-hand l = vec_len l.hands
