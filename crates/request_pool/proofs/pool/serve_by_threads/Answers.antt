-- Hands may go to other threads, which may share the pool and the count, and each hand stays one of the pool's.
use denote.Param.Send.{sendable}
use Rattle.std.proofs.Crossing.{crosses}
use Rattle.tag_pool.proofs.Crossing.{hand_send, pool_sync}
use Rattle.request_pool.proofs.pool.serve_by_threads.Goals as goal

pub for_each_mut-requires-send-T : goal.for_each_mut-requires-send-T
for_each_mut-requires-send-T g c κs within = search (hand_send, sendable) depth 40

pub for_each_mut-requires-sync-F : goal.for_each_mut-requires-sync-F
for_each_mut-requires-sync-F g c κs within = search (pool_sync, sendable, crosses) depth 40
