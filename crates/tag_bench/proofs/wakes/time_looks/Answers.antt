-- Each thread is sent a waiter.
use denote.Param.Send.{sendable}
use Rattle.wake_book.proofs.Crossing.{waiter_send}
use Rattle.tag_bench.proofs.wakes.time_looks.Goals as goal

pub for_each_mut-requires-send-T : goal.for_each_mut-requires-send-T
for_each_mut-requires-send-T g c κs within = search (waiter_send, sendable) depth 40
