-- A cache may go to another thread if the slots' values may.
use denote.RattleType.{RattleType}
use denote.Param.Send.{IsSend, recorded_send, struct_send, sendable}
use denote.Struct.Declared.{shape as fields_of}
use Rattle.std.proofs.Crossing.{crosses}
use Rattle.tag_pool.proofs.Crossing.{hand_field_send}
use Rattle.tag_cache.specs.contracts.cache.Cache as cache

pub cache_field_send : (R : RattleType) → IsSend R → IsSend (cache.the_field R).row
cache_field_send R value = struct_send (fields_of (cache.the_type R)) (
  search (sendable, crosses) depth 40,
  (
    search (sendable, crosses) depth 40,
    (
      search (sendable, crosses) depth 40,
      (
        search (sendable, crosses) depth 40,
        (
          search (sendable, crosses) depth 40,
          (search (sendable, crosses) depth 40, (search (sendable, crosses) depth 40, (hand_field_send R value, tt))),
        ),
      ),
    ),
  ),
)

-- a cache may go to another thread
pub cache_send : (R : RattleType) → IsSend R → IsSend (cache.the_row R)
cache_send R value = recorded_send _ _ _ (cache.the_type R).to_one (cache_field_send R value)
