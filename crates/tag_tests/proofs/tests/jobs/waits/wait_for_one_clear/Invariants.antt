-- The caller stays one of the tags' own.
use Rattle.tag_tests.proofs.tests.jobs.waits.wait_for_one_clear.Given as goal

abbrev pub invariant-loop : goal.invariant-loop
invariant-loop g l = g.T.TagAllocator.is_own l.tags l.caller
