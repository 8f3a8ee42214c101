-- Hands go to threads that share the queue.
use Rattle.tag_bench.proofs.Uses.{crosses, queue_hand_send, queue_sync, sendable}
use Rattle.tag_bench.proofs.waits.run.Goals as goal

pub carry_out-requires-send-T-Hand : goal.carry_out-requires-send-T-Hand
carry_out-requires-send-T-Hand g c κs within = search (queue_hand_send, sendable) depth 40

pub carry_out-requires-sync-T : goal.carry_out-requires-sync-T
carry_out-requires-sync-T g c κs within = search (queue_sync, sendable, crosses) depth 40
