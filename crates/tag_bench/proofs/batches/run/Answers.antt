-- Callers go to threads that share the map.
use Rattle.tag_bench.proofs.Uses.{caller_send, crosses, map_sync, sendable}
use Rattle.tag_bench.proofs.batches.run.Goals as goal

pub run_case-requires-send-T-Hand : goal.run_case-requires-send-T-Hand
run_case-requires-send-T-Hand g c κs within = search (caller_send, sendable) depth 40

pub run_case-requires-sync-T : goal.run_case-requires-sync-T
run_case-requires-sync-T g c κs within = search (map_sync, sendable, crosses) depth 40
