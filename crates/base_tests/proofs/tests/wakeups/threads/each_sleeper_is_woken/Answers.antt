-- The second thread is sent a waiter and shares the groups, by the rows of `Crossing`.
use Rattle.base_tests.proofs.Uses.{crosses, groups_sync, sendable, waiter_send}
use Rattle.base_tests.proofs.tests.wakeups.threads.each_sleeper_is_woken.Goals as goal

pub join-woken-requires-send-F : goal.join-woken-requires-send-F
join-woken-requires-send-F g c κs within = search (waiter_send, groups_sync, sendable, crosses) depth 60
