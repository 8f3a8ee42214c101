-- Each thread is sent a waiter of its own, by the row of `Crossing`.
use Rattle.base_tests.proofs.Uses.{sendable, waiter_send}
use Rattle.base_tests.proofs.tests.wakeups.threads.grants_balance_among_sixteen_threads.Goals as goal

pub for_each_mut-requires-send-T : goal.for_each_mut-requires-send-T
for_each_mut-requires-send-T g c κs within = search (waiter_send, sendable) depth 40
