-- The caller stays one of the tags' own.
use Rattle.tag_tests.proofs.tests.jobs.waits.clear_once.Given as goal

abbrev pub invariant-loop-round : goal.invariant-loop-round
invariant-loop-round g l = g.T.TagAllocator.is_own l.tags l.caller

abbrev pub invariant-loop : goal.invariant-loop
invariant-loop g l = g.T.TagAllocator.is_own l.tags l.caller
