-- Hands go to threads that share the pool.
use Rattle.tag_bench.proofs.Uses.{crosses, hand_send, pool_sync, sendable}
use Rattle.tag_bench.proofs.run_on_pool.Goals as goal

pub run-requires-send-T-Hand : goal.run-requires-send-T-Hand
run-requires-send-T-Hand g c κs within = search (hand_send, sendable) depth 40

pub run-requires-sync-T : goal.run-requires-sync-T
run-requires-sync-T g c κs within = search (pool_sync, sendable, crosses) depth 40
