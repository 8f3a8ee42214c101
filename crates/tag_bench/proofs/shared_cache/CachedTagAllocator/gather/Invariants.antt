-- The caches that are still to come belong to the pool.
use Rattle.tag_bench.proofs.Uses.{All, into_iter_items, IsCacheOf}
use Rattle.tag_bench.proofs.shared_cache.CachedTagAllocator.gather.Given as goal

abbrev pub invariant-loop-cache : goal.invariant-loop-cache
invariant-loop-cache l = record {
  steps : goal.iterator-loop-cache.can_next l.cache-iterator × goal.iterator-loop-cache.is_finite l.cache-iterator;
  rest : All (IsCacheOf l.pool) (into_iter_items l.cache-iterator);
}
