-- Callers go to threads that share the map.
use Rattle.tag_bench.proofs.Uses.{caller_send, crosses, map_sync, sendable}
use Rattle.tag_bench.proofs.gets.run_case.Goals as goal

pub carry_out-requires-send-T-Hand : goal.carry_out-requires-send-T-Hand
carry_out-requires-send-T-Hand g c κs within = search (caller_send, sendable) depth 40

pub carry_out-requires-sync-T : goal.carry_out-requires-sync-T
carry_out-requires-sync-T g c κs within = search (map_sync, sendable, crosses) depth 40
