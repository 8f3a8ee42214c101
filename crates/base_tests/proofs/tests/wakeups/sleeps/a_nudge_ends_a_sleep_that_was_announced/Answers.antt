-- The second thread is sent two waiters and shares the groups, by the rows of `Crossing`.
use Rattle.base_tests.proofs.Uses.{crosses, groups_sync, sendable, waiter_send}
use Rattle.base_tests.proofs.tests.wakeups.sleeps.a_nudge_ends_a_sleep_that_was_announced.Goals as goal

pub join-requires-send-F : goal.join-requires-send-F
join-requires-send-F g c κs within = search (waiter_send, groups_sync, sendable, crosses) depth 60
