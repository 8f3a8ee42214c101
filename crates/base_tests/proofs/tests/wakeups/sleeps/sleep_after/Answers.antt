-- A waiter's wait index is below 8.
use Rattle.std.proofs.Common.{arith}
use Rattle.base_tests.proofs.tests.wakeups.sleeps.sleep_after.Goals as goal

pub intervene-requires-clause-within : goal.intervene-requires-clause-within
intervene-requires-clause-within g c = let low = c.args.sleeper.now.within in let is = c.enter-group.ensures.group.0 in omega arith
