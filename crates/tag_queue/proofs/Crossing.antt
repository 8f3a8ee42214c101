-- Hands and queues may go to another thread if the slots' values may; threads that may share these values may share a
-- queue.
use denote.RattleType.{RattleType}
use denote.Param.Send.{IsSend, IsSync, recorded_sync, sendable, struct_sync}
use denote.Struct.Declared.{shape as fields_of}
use Rattle.std.proofs.Crossing.{crosses}
use Rattle.tag_pool.proofs.Crossing.{hand_field_send as inner_field_send, hand_field_sync as inner_field_sync, hand_send as inner_send, hand_sync as inner_sync, pool_field_send, pool_field_sync}
use Rattle.tag_pool.specs.contracts.hand.Hand as inner
use Rattle.wake_book.proofs.Crossing.{announcement_field_send, announcement_field_sync, sighting_field_send, sighting_field_sync, teller_field_send, teller_field_sync, waiter_field_send, waiter_field_sync}
use Rattle.wake_book.proofs.Crossing.{book_field_send, book_field_sync, groups_field_send, groups_field_sync}
use Rattle.tag_queue.specs.contracts.hand.QueueHand as hand
use Rattle.tag_queue.specs.contracts.queue.Queue as queue
use Rattle.tag_queue.specs.contracts.room.Room as room
use Rattle.tag_queue.specs.contracts.room.Shell as shell

pub hand_field_send : (R : RattleType) → IsSend R → IsSend (hand.the_field R).row
hand_field_send R value = let inner_goes = inner_field_send R value in
    let looked = sighting_field_send (inner.the_row R) in let announced = announcement_field_send (inner.the_row R) in
    search (teller_field_send, waiter_field_send, looked, announced, inner_goes, sendable, crosses) depth 60

-- a hand may go to another thread
pub hand_send : (R : RattleType) → IsSend R → IsSend (hand.the_row R)
hand_send R value = let fields = hand_field_send R value in search (fields, sendable) depth 60

pub hand_field_sync : (R : RattleType) → IsSend R → IsSync (hand.the_field R).row
hand_field_sync R sent = let inner_shared = inner_field_sync R sent in
    let looked = sighting_field_sync (inner.the_row R) in let announced = announcement_field_sync (inner.the_row R) in
    search (teller_field_sync, waiter_field_sync, looked, announced, inner_shared, sendable, crosses) depth 60

-- threads may share a hand, because a shared reference to a hand makes no step
pub hand_sync : (R : RattleType) → IsSend R → IsSync (hand.the_row R)
hand_sync R sent = let fields = hand_field_sync R sent in search (fields, sendable) depth 60

shell_field_send : (R : RattleType) → IsSend R → IsSend (shell.the_field R).row
shell_field_send R value =
    let looked = sighting_field_send (inner.the_row R) in let announced = announcement_field_send (inner.the_row R) in
    search (teller_field_send, waiter_field_send, looked, announced, sendable, crosses) depth 60

shell_send : (R : RattleType) → IsSend R → IsSend (shell.the_row R)
shell_send R value = let fields = shell_field_send R value in search (fields, sendable) depth 60

shell_field_sync : (R : RattleType) → IsSync (shell.the_field R).row
shell_field_sync R =
    let looked = sighting_field_sync (inner.the_row R) in let announced = announcement_field_sync (inner.the_row R) in
    search (teller_field_sync, waiter_field_sync, looked, announced, sendable, crosses) depth 60

room_field_send : (R : RattleType) → IsSend R → IsSend (room.the_field R).row
room_field_send R sent = let inner_goes = inner_send R sent in let shell_goes = shell_send R sent in
    search (inner_goes, shell_goes, sendable, crosses) depth 60

room_field_sync : (R : RattleType) → IsSend R → IsSync (room.the_field R).row
room_field_sync R sent = let inner_shared = inner_sync R sent in
    let shell_shared : IsSync (shell.the_row R) = recorded_sync _ _ _ (shell.the_type R).to_one (shell_field_sync R) in
    search (inner_shared, shell_shared, sendable, crosses) depth 60

pub queue_field_send : (R : RattleType) → IsSend R → IsSend (queue.the_field R).row
queue_field_send R sent = let pool_goes = pool_field_send R sent in let room_goes = room_field_send R sent in
    search (pool_goes, book_field_send, groups_field_send, room_goes, sendable, crosses) depth 60

-- a queue may go to another thread
pub queue_send : (R : RattleType) → IsSend R → IsSend (queue.the_row R)
queue_send R sent = let fields = queue_field_send R sent in search (fields, sendable) depth 60

pub queue_field_sync : (R : RattleType) → IsSend R → IsSync R → IsSync (queue.the_field R).row
queue_field_sync R sent shared = struct_sync (fields_of (queue.the_type R)) (
  pool_field_sync R sent shared,
  (
    book_field_sync,
    (
      groups_field_sync,
      (search (sendable, crosses) depth 40, (search (sendable, crosses) depth 40, (room_field_sync R sent, tt))),
    ),
  ),
)

-- threads may share a queue
pub queue_sync : (R : RattleType) → IsSend R → IsSync R → IsSync (queue.the_row R)
queue_sync R sent shared = let fields = queue_field_sync R sent shared in search (fields, sendable) depth 60
