-- The places passed are busy.
use Rattle.base_tests.proofs.Uses.{IsBusy, pool_of_marks, ℕ}
use Rattle.std.proofs.Common.{◌<◌}
use Rattle.base_tests.proofs.tests.search.reference.least_open.Given as goal

abbrev pub invariant-loop-place : goal.invariant-loop-place
invariant-loop-place l = (k : ℕ) → k < l.place → IsBusy (pool_of_marks l.layout l.free l.aside) l.word k
