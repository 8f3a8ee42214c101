-- The second thread is sent a waiter and shares the groups, by the rows of `Crossing`.
use Rattle.base_tests.proofs.Uses.{crosses, groups_sync, sendable, waiter_send}
use Rattle.base_tests.proofs.tests.wakeups.sleeps.threads_sleep_until_somebody_ends_it.Goals as goal

pub join-requires-send-F : goal.join-requires-send-F
join-requires-send-F g c κs within = search (waiter_send, groups_sync, sendable, crosses) depth 60
