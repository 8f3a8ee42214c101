-- Hands may go to other threads, and threads may share the queue.
use Rattle.tag_tests.proofs.Uses.{crosses, IsSync, recorded_sync, sendable, struct_sync, u64-field}
use denote.Struct.Declared.{shape as fields_of}
use Rattle.tag_queue.proofs.Crossing.{hand_send, queue_field_sync}
use Rattle.tag_tests.specs.contracts.tests.queue.TestedQueue as tested
use Rattle.tag_tests.proofs.tests.queue.threads.played_on_queue.Goals as goal

queue_shared : IsSync tested.the_row
queue_shared = recorded_sync _ _ _ tested.the_type.to_one (struct_sync (fields_of tested.the_type) (
  queue_field_sync u64-field.row (search sendable) (search sendable),
  tt,
))

pub played-requires-send-T-Caller : goal.played-requires-send-T-Caller
played-requires-send-T-Caller g c κs within = search (hand_send, sendable) depth 40

pub played-requires-sync-T : goal.played-requires-sync-T
played-requires-sync-T g c κs within = search (queue_shared, sendable, crosses) depth 40
