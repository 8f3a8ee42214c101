-- The threads' callers may be sent, and what they share may be shared.
use Rattle.base_tests.proofs.Uses.{caller_send, crosses, map_sync, sendable}
use Rattle.base_tests.proofs.tests.map.resizing_threads.play_and_resize.Goals as goal

pub for_each_mut-requires-send-T : goal.for_each_mut-requires-send-T
for_each_mut-requires-send-T g c κs within = search (caller_send, sendable) depth 40

pub for_each_mut-requires-sync-F : goal.for_each_mut-requires-sync-F
for_each_mut-requires-sync-F g c κs within = search (map_sync, sendable, crosses) depth 40
