-- An object may be sent to any thread, since each of its fields may, down to the cells.
use denote.Param.Send.{IsSend, IsSync, recorded_send, recorded_sync, struct_send, struct_sync, enum_send, sendable}
use denote.Enum.Declared.{shape as choices_of}
use denote.Struct.Declared.{shape as fields_of}
use denote.Struct.Field.{u64-field}
use Rattle.std.proofs.Crossing.{crosses}
use Rattle.counted_slot.proofs.Counted.TheSendSync.{the_send as counted_send, the_sync as counted_sync}
use Rattle.tag_pool.specs.contracts.hand.Hand as hand
use Rattle.tag_pool.proofs.Crossing.{hand_send, hand_field_send, hand_field_sync, pool_field_send, pool_field_sync}
use Rattle.tag_cache.proofs.Crossing.{cache_field_send}
use Rattle.tag_c.specs.contracts.cached.CacheTerms as terms
use Rattle.tag_c.specs.contracts.cached.CachedMember as cached
use Rattle.tag_c.specs.contracts.hand_cells.IdleHand as idle
use Rattle.tag_c.specs.contracts.pool_state.PoolState as shared
use Rattle.tag_c.specs.contracts.member.Member as member
use Rattle.tag_c.specs.contracts.pool.OpenPool as pool
use Rattle.tag_c.specs.contracts.object.Kind as kind
use Rattle.tag_c.specs.contracts.object.Object as object

hand_goes : IsSend (hand.the_row u64-field.row)
hand_goes = hand_send u64-field.row (search sendable)

hand_field : IsSend (hand.the_field u64-field.row).row
hand_field = hand_field_send u64-field.row (search sendable)

hand_field_shared : IsSync (hand.the_field u64-field.row).row
hand_field_shared = hand_field_sync u64-field.row (search sendable)

idle_goes : IsSend idle.the_row
idle_goes = recorded_send _ _ _ idle.the_type.to_one (struct_send (fields_of idle.the_type) (hand_field, tt))

idle_shared : IsSync idle.the_row
idle_shared = recorded_sync _ _ _ idle.the_type.to_one
    (struct_sync (fields_of idle.the_type) (hand_field_shared, tt))

terms_field : IsSend terms.the_field.row
terms_field = struct_send (fields_of terms.the_type)
    (search (sendable, crosses) depth 40, (search (sendable, crosses) depth 40, tt))

terms_shared : IsSync terms.the_field.row
terms_shared = struct_sync (fields_of terms.the_type)
    (search (sendable, crosses) depth 40, (search (sendable, crosses) depth 40, tt))

shared_field : IsSend shared.the_field.row
shared_field = struct_send (fields_of shared.the_type) (
  pool_field_send u64-field.row (search sendable),
  (
    search (sendable, crosses) depth 40,
    (
      search (sendable, crosses) depth 40,
      (terms_field, (search (counted_send, idle_goes, sendable, crosses) depth 60, tt)),
    ),
  ),
)

shared_goes : IsSend shared.the_row
shared_goes = recorded_send _ _ _ shared.the_type.to_one shared_field

shared_field_shared : IsSync shared.the_field.row
shared_field_shared = struct_sync (fields_of shared.the_type) (
  pool_field_sync u64-field.row (search sendable) (search sendable),
  (
    search (sendable, crosses) depth 40,
    (
      search (sendable, crosses) depth 40,
      (terms_shared, (search (counted_sync, idle_goes, idle_shared, sendable, crosses) depth 60, tt)),
    ),
  ),
)

shared_shared : IsSync shared.the_row
shared_shared = recorded_sync _ _ _ shared.the_type.to_one shared_field_shared

member_field : IsSend member.the_field.row
member_field = struct_send (fields_of member.the_type)
    (search (shared_goes, shared_shared, sendable, crosses) depth 60, (hand_field, tt))

cached_field : IsSend cached.the_field.row
cached_field = struct_send (fields_of cached.the_type) (
  search (shared_goes, shared_shared, sendable, crosses) depth 60,
  (cache_field_send u64-field.row (search sendable), tt),
)

pool_field : IsSend pool.the_field.row
pool_field = struct_send (fields_of pool.the_type) (
  search (shared_goes, shared_shared, sendable, crosses) depth 60,
  (search (hand_goes, sendable, crosses) depth 60, tt),
)

pub object_goes : IsSend object.the_row
object_goes = recorded_send _ _ _ object.the_type.to_one (struct_send (fields_of object.the_type) (
  enum_send (choices_of kind.the_type) ((member_field, tt), ((pool_field, tt), ((cached_field, tt), tt))),
  tt,
))
