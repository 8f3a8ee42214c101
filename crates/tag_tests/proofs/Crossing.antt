-- Callers with caches may go to other threads.
use Rattle.tag_tests.proofs.Uses.{enum_send, hand_field_send, IsSend, recorded_send, sendable, u64-field}
use denote.Enum.Declared.{shape as choices_of}
use Rattle.tag_cache.proofs.Crossing.{cache_field_send}
use Rattle.tag_tests.specs.contracts.caller.Caller as caller

pub caller_goes : IsSend caller.the_row
caller_goes = recorded_send _ _ _ caller.the_type.to_one (enum_send (choices_of caller.the_type) (
  (hand_field_send u64-field.row (search sendable), tt),
  ((cache_field_send u64-field.row (search sendable), tt), tt),
))
