-- The words passed are those at the front of the order; none has an available place in its rank, and all are swept.
use Rattle.base_tests.proofs.Uses.{limit_of, pool_of_marks, take}
use Rattle.std.proofs.Common.{◌≡◌}
use Rattle.base_tests.proofs.Reference.{HavePassed}
use Rattle.base_tests.proofs.tests.search.reference.choice.Given as goal

abbrev pub invariant-loop-word : goal.invariant-loop-word
invariant-loop-word l = record {
  swept : l.swept.items ≡ take l.word-index l.word-items;
  passed : HavePassed (pool_of_marks l.layout l.free l.aside) l.way.first (record {
    start = l.way.start;
    limit = limit_of l.layout l.way.shallow;
    wrap = l.way.wrap;
  }) (take l.word-index l.word-items);
}
