-- The threads share the map and are each sent a caller of their own: both follow from the rows of `Crossing`.
use Rattle.base_tests.proofs.Uses.{caller_send, crosses, map_sync, sendable}
use Rattle.base_tests.proofs.tests.map.threads.play_all.Goals as goal

pub for_each_mut-requires-send-T : goal.for_each_mut-requires-send-T
for_each_mut-requires-send-T g c κs within = search (caller_send, sendable) depth 40

pub for_each_mut-requires-sync-F : goal.for_each_mut-requires-sync-F
for_each_mut-requires-sync-F g c κs within = search (map_sync, sendable, crosses) depth 40
