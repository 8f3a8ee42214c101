-- Hands go to threads that share the queue.
use Rattle.tag_bench.proofs.Uses.{crosses, queue_hand_send, queue_sync, sendable}
use Rattle.tag_bench.proofs.run_on_queue.Goals as goal

pub run-requires-send-T-Hand : goal.run-requires-send-T-Hand
run-requires-send-T-Hand g c κs within = search (queue_hand_send, sendable) depth 40

pub run-requires-sync-T : goal.run-requires-sync-T
run-requires-sync-T g c κs within = search (queue_sync, sendable, crosses) depth 40
