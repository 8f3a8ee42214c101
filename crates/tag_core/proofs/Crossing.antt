-- Where the slots' values may go to any thread, a map, its callers and a gathering may, and threads may share a caller;
-- where any thread may share them too, threads may share a map. A layer above cites the row of a value that it
-- passes on,
-- and the field's row of one that a struct of its own has.
use denote.RattleType.{RattleType}
use denote.Param.Send.{IsSend, IsSync, recorded_sync, struct_sync, sendable}
use denote.Struct.Declared.{shape as fields_of}
use Rattle.std.proofs.Crossing.{crosses}
use Rattle.atomic_table.proofs.shared.Seat.TheSendSync.{the_send as seat_send}
use Rattle.atomic_table.proofs.owned.Table.TheSendSync.{the_field_send as table_send, the_field_sync as table_sync}
use Rattle.step_ledger.proofs.Crossing.{seat_sync}
use Rattle.tag_core.specs.contracts.caller.Caller as caller
use Rattle.tag_core.specs.contracts.map.Map as map
use Rattle.tag_core.specs.contracts.together.Gathering as gathering

-- a caller may go to another thread
pub caller_send : (R : RattleType) → IsSend R → IsSend (caller.the_row R)
caller_send R value = search (sendable, crosses, seat_send) depth 60

pub caller_field_send : (R : RattleType) → IsSend R → IsSend (caller.the_field R).row
caller_field_send R value = search (sendable, crosses, seat_send) depth 60

-- threads may share a caller: one that is only shared makes no step
pub caller_sync : (R : RattleType) → IsSend R → IsSync (caller.the_row R)
caller_sync R value = search (seat_sync, sendable, crosses) depth 60

pub caller_field_sync : (R : RattleType) → IsSend R → IsSync (caller.the_field R).row
caller_field_sync R value = search (seat_sync, sendable, crosses) depth 60

-- so may a gathering
pub gathering_send : (R : RattleType) → IsSend R → IsSend (gathering.the_row R)
gathering_send R value = search (sendable, crosses, seat_send) depth 60

pub gathering_field_send : (R : RattleType) → IsSend R → IsSend (gathering.the_field R).row
gathering_field_send R value = search (sendable, crosses, seat_send) depth 60

-- a map may go to another thread
pub map_send : (R : RattleType) → IsSend R → IsSend (map.the_row R)
map_send R value = search (table_send, sendable, crosses) depth 60

pub map_field_send : (R : RattleType) → IsSend R → IsSend (map.the_field R).row
map_field_send R value = search (table_send, sendable, crosses) depth 60

-- threads may share a map
pub map_field_sync : (R : RattleType) → IsSend R → IsSync R → IsSync (map.the_field R).row
map_field_sync R sent shared = struct_sync (fields_of (map.the_type R)) (
  search (table_sync, sendable, crosses) depth 60,
  (search (sendable, crosses) depth 40, (search (sendable, crosses) depth 40, tt)),
)

pub map_sync : (R : RattleType) → IsSend R → IsSync R → IsSync (map.the_row R)
map_sync R sent shared = recorded_sync _ _ _ (map.the_type R).to_one (map_field_sync R sent shared)
