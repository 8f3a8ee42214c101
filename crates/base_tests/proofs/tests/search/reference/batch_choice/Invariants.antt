-- The words passed are those at the front of the order; none has a run, and all are swept.
use Rattle.base_tests.proofs.Uses.{All, HasNoRun, pool_of_marks, take}
use Rattle.std.proofs.Common.{◌≡◌}
use Rattle.base_tests.proofs.tests.search.reference.batch_choice.Given as goal

abbrev pub invariant-loop-word : goal.invariant-loop-word
invariant-loop-word l = record {
  swept : l.swept.items ≡ take l.word-index l.word-items;
  passed : All (HasNoRun l.layout l.n (pool_of_marks l.layout l.free l.aside)) (take l.word-index l.word-items);
}
