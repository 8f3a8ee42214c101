-- Callers go to threads that share the map.
use Rattle.tag_bench.proofs.Uses.{caller_send, crosses, map_sync, sendable}
use Rattle.tag_bench.proofs.run_on_map.Goals as goal

pub run-requires-send-T-Hand : goal.run-requires-send-T-Hand
run-requires-send-T-Hand g c κs within = search (caller_send, sendable) depth 40

pub run-requires-sync-T : goal.run-requires-sync-T
run-requires-sync-T g c κs within = search (map_sync, sendable, crosses) depth 40
