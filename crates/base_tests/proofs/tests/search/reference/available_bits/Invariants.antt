-- The bits so far are those of the available places so far.
use Rattle.base_tests.proofs.Uses.{bit_at, IsAvailable, pool_of_marks, ℕ}
use Rattle.std.proofs.Common.{◌≡◌, ◌↔◌, ◌+◌, ◌<◌}
use Rattle.base_tests.proofs.tests.search.reference.available_bits.Given as goal

abbrev pub invariant-loop-k : goal.invariant-loop-k
invariant-loop-k l = (j : ℕ) → bit_at l.bits j ≡ 1 ↔ (j < l.k)
    × IsAvailable (pool_of_marks l.layout l.free l.aside) l.word (l.place + j)
