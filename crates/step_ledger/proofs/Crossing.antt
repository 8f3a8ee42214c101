-- Threads may share a seat where the slots' values may go to any of them: a seat that is only shared makes no step.
use denote.RattleType.{RattleType}
use denote.Param.Send.{IsSend, IsSync, part_keyless}
use Rattle.atomic_table.specs.contracts.shared.Seat.{the_row}
use Rattle.atomic_table.proofs.shared.Seat.TheSendSync.{the_send as seat_send}

pub seat_sync : (S V : RattleType) → IsSend S → IsSync (the_row S V)
seat_sync S V s = record { shared = λ d b o κ α. part_keyless (the_row S V) (seat_send S V s) α d b o }
