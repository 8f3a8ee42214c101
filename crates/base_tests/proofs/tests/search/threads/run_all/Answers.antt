-- Callers may be sent to other threads, and each keeps to its map there.
use Rattle.base_tests.proofs.Uses.{arith, crosses, IsSync, length, rules, sendable}
use Rattle.std.proofs.Common.{◌<◌}
use Rattle.std.proofs.Crossing as crossing
use denote.Builtin.{u64}
use Rattle.atomic_table.proofs.shared.Seat.TheSendSync.{the_send as send}
use Rattle.atomic_table.proofs.shared.Shared.TheSendSync.{the_sync as sync}
use Rattle.atomic_table.proofs.send_lease.SendLease.TheSendSync.{the_sync as lease}
use Rattle.tag_core.specs.contracts.map.Map as Map
use Rattle.base_tests.proofs.tests.search.threads.run_all.Goals as goal

pub for_each_mut-requires-send-T : goal.for_each_mut-requires-send-T
for_each_mut-requires-send-T g c κs within = search (sendable, crosses, send) depth 60

map_sync : IsSync (Map.the_row u64)
map_sync = search (sendable, crosses, sync, lease, crossing.send, crossing.sync) depth 60

pub for_each_mut-requires-sync-F : goal.for_each_mut-requires-sync-F
for_each_mut-requires-sync-F g c κs within = search (sendable, crosses, map_sync) depth 60

pub returns : goal.returns
returns g c = λ k d h.
    let inside : k < length c.args.callers.now = omega arith in let at = (c.for_each_mut.ensures k d inside).1 in
    (search rules, search rules)
