-- Caches go to threads that share the pool.
use Rattle.tag_bench.proofs.Uses.{crosses, sendable}
use Rattle.tag_cache.proofs.Crossing.{cache_send}
use Rattle.tag_bench.proofs.Cached.{cached_sync}
use Rattle.tag_bench.proofs.run_on_caches.Goals as goal

pub run-requires-send-T-Hand : goal.run-requires-send-T-Hand
run-requires-send-T-Hand g c κs within = search (cache_send, sendable) depth 40

pub run-requires-sync-T : goal.run-requires-sync-T
run-requires-sync-T g c κs within = search (cached_sync, sendable, crosses) depth 40
