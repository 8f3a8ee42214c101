-- No member so far has the number.
use Rattle.std.specs.Prelude.{◌<◌, ◌≢◌}
use Rattle.step_ledger.proofs.Uses.{get_elem?, map, some, ℕ}
use Rattle.step_ledger.proofs.numbered.index_of.Given as goal

abbrev pub invariant-loop-index : goal.invariant-loop-index
invariant-loop-index g l = (i : ℕ) → i < l.index → get_elem? (map g.M.Numbered.number_of l.members) i ≢ some l.number
