-- Each of the crate's values may go to another thread, and threads may share each but a gathering.
-- A layer above cites the row of a value that it passes, and the field's row of one that a struct of its own has.
use denote.RattleType.{RattleType}
use denote.Param.Send.{IsSend, IsSync, sendable}
use Rattle.std.proofs.Crossing.{crosses}
use Rattle.atomic_table.proofs.shared.Seat.TheSendSync.{the_send as seat_send}
use Rattle.atomic_table.proofs.owned.Table.TheSendSync.{the_field_sync as table_sync, the_field_send as table_send}
use Rattle.step_ledger.proofs.Crossing.{seat_sync}
use Rattle.wake_book.specs.contracts.book.Teller as teller
use Rattle.wake_book.specs.contracts.book.Book as book
use Rattle.wake_book.specs.contracts.book.TellerGathering as tellers
use Rattle.wake_book.specs.contracts.groups.Waiter as waiter
use Rattle.wake_book.specs.contracts.groups.Groups as groups
use Rattle.wake_book.specs.contracts.groups.WaiterGathering as waiters
use Rattle.wake_book.specs.contracts.sighting.Sighting as sighting
use Rattle.wake_book.specs.contracts.sleeping.Announcement as announcement

pub teller_field_send : IsSend teller.the_field.row
teller_field_send = search (sendable, crosses, seat_send) depth 60

pub teller_field_sync : IsSync teller.the_field.row
teller_field_sync = search (seat_sync, sendable, crosses) depth 60

pub book_field_send : IsSend book.the_field.row
book_field_send = search (table_send, sendable, crosses) depth 60

pub book_field_sync : IsSync book.the_field.row
book_field_sync = search (table_sync, sendable, crosses) depth 60

pub tellers_field_send : IsSend tellers.the_field.row
tellers_field_send = search (sendable, crosses, seat_send) depth 60

pub waiter_field_send : IsSend waiter.the_field.row
waiter_field_send = search (sendable, crosses, seat_send) depth 60

pub waiter_send : IsSend waiter.the_row
waiter_send = search (waiter_field_send, sendable, crosses) depth 60

pub waiter_field_sync : IsSync waiter.the_field.row
waiter_field_sync = search (seat_sync, sendable, crosses) depth 60

pub groups_field_send : IsSend groups.the_field.row
groups_field_send = search (table_send, sendable, crosses) depth 60

pub groups_field_sync : IsSync groups.the_field.row
groups_field_sync = search (table_sync, sendable, crosses) depth 60

pub groups_sync : IsSync groups.the_row
groups_sync = search (table_sync, sendable, crosses) depth 60

pub waiters_field_send : IsSend waiters.the_field.row
waiters_field_send = search (sendable, crosses, seat_send) depth 60

-- a sighting has no bytes, whatever it was beside
pub sighting_field_send : (T : RattleType) → IsSend (sighting.the_field T).row
sighting_field_send T = search (sendable, crosses) depth 60

pub sighting_field_sync : (T : RattleType) → IsSync (sighting.the_field T).row
sighting_field_sync T = search (sendable, crosses) depth 60

-- nor has an announcement
pub announcement_field_send : (T : RattleType) → IsSend (announcement.the_field T).row
announcement_field_send T = search (sendable, crosses) depth 60

pub announcement_field_sync : (T : RattleType) → IsSync (announcement.the_field T).row
announcement_field_sync T = search (sendable, crosses) depth 60
