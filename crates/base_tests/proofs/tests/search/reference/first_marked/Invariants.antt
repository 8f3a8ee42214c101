-- The places passed are not marked.
use Rattle.std.proofs.Common.{◌≡◌, ℕ, ◌<◌, false, get_or}
use Rattle.base_tests.specs.Marks.{mark_at}
use Rattle.base_tests.proofs.tests.search.reference.first_marked.Given as goal

abbrev pub invariant-loop-place : goal.invariant-loop-place
invariant-loop-place l = (j : ℕ) → j < l.place-index → mark_at l.layout l.marks l.word (get_or l.rank j 0) ≡ false
