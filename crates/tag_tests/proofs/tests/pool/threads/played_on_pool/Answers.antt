-- Callers with caches may go to other threads, and threads may share the pool.
use Rattle.tag_tests.proofs.Uses.{crosses, IsSync, pool_field_sync, recorded_sync, sendable, struct_sync, u64-field}
use denote.Struct.Declared.{shape as fields_of}
use Rattle.tag_tests.specs.contracts.tests.shared.parts.Shared as shared
use Rattle.tag_tests.proofs.Crossing.{caller_goes}
use Rattle.tag_tests.proofs.tests.pool.threads.played_on_pool.Goals as goal

pool_shared : IsSync shared.the_row
pool_shared = recorded_sync _ _ _ shared.the_type.to_one (struct_sync (fields_of shared.the_type) (
  pool_field_sync u64-field.row (search sendable) (search sendable),
  (search (sendable, crosses) depth 40, (search (sendable, crosses) depth 40, tt)),
))

pub played-stage-requires-send-T-Caller : goal.played-stage-requires-send-T-Caller
played-stage-requires-send-T-Caller g c κs within = search (caller_goes, sendable) depth 40

pub played-stage-requires-sync-T : goal.played-stage-requires-sync-T
played-stage-requires-sync-T g c κs within = search (pool_shared, sendable, crosses) depth 40
