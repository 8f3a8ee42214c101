-- A hand may go to another thread, and threads may share what a play shares, where the slots hold lines.
use Rattle.loop_device.proofs.Uses.{crosses, IsSend, IsSync, recorded_sync, sendable, struct_sync, u32-field, u64-field}
use denote.RattleType.{RattleType}
use denote.Struct.Declared.{shape as fields_of}
use denote.Enum.Declared.{row, declared}
use denote.Hole.FixSend.{Sends, fix_send}
use denote.Param.SendFields.{variants_send}
use Rattle.std.specs.contracts.option.Option as option
use Rattle.atomic_table.proofs.owned.Table.TheSendSync.{the_field_sync as table_sync}
use Rattle.atomic_table.proofs.shared.Seat.TheSendSync.{the_send as seat_send}
use Rattle.atomic_table.specs.contracts.shared.Seat as seat
use Rattle.crossbeam_queue.specs.contracts.array_queue.Doing as doing
use Rattle.loop_device.specs.contracts.device.Device as device
use Rattle.loop_device.specs.declared.device_queue.Tagged as tagged
use Rattle.loop_device.specs.contracts.device_queue.Worker as worker
use Rattle.loop_device.specs.contracts.segments.Segments as stamps
use Rattle.loop_device.specs.contracts.segments.Segments.TheKnot as knot
use Rattle.loop_device.specs.declared.segments.Segments.TheBlock.{the_members, member-Segments}
use Rattle.tag_queue.proofs.Crossing.{hand_send, queue_field_sync}
use Rattle.tag_queue.specs.contracts.hand.QueueHand as hand
use Rattle.loop_device.specs.contracts.io.Log as log
use Rattle.loop_device.specs.contracts.store.Store as store

pub hand_goes : IsSend (hand.the_row u64-field.row)
hand_goes = hand_send u64-field.row (search sendable)

pub log_shared : IsSync log.the_row
log_shared = search (sendable, crosses) depth 60

layer_goes : (i : the_members) → Sends knot.ring i
layer_goes member-Segments = record {
  send = λ h all.
      let s : IsSend (row (declared (knot.type-Segments (h member-Segments) (h member-Segments)))) =
      variants_send (knot.type-Segments (h member-Segments) (h member-Segments)) (
        (search sendable, tt),
        (
          (
            search sendable,
            (
              search (all member-Segments, sendable, crosses) depth 40,
              (search (all member-Segments, sendable, crosses) depth 40, tt),
            ),
          ),
          tt,
        ),
      ) in
      record { owned = s.owned; leaving = s.leaving };
}

hole_goes : IsSend knot.hole-Segments
hole_goes = fix_send knot.ring layer_goes member-Segments

stamps_field_go : IsSend (stamps.the_field).row
stamps_field_go = search (hole_goes, sendable, crosses) depth 60

store_goes : IsSend store.the_row
store_goes = search (stamps_field_go, sendable, crosses) depth 60

-- threads may share a device, whatever its rule's total
pub device_shared : (B : RattleType) (total : tagged.Ghosts B.Denot) → IsSend B → IsSync B → IsSync (device.the_row B total)
device_shared B total sent shared = recorded_sync _ _ _ (device.the_type B total).to_one
    (struct_sync (fields_of (device.the_type B total)) (
      queue_field_sync u64-field.row (search sendable) (search sendable),
      (
        search (table_sync, sendable, crosses) depth 60,
        (
          search (store_goes, sendable, crosses) depth 60,
          (search (sendable, crosses) depth 60, (search (sendable, crosses) depth 60, tt)),
        ),
      ),
    ))

pub pass_goes : IsSend (seat.the_row (option.the_row u32-field.row) (doing.the_row u32-field.row worker.the_row))
pass_goes = seat_send (option.the_row u32-field.row) (doing.the_row u32-field.row worker.the_row)
    (search (sendable, crosses) depth 40)
