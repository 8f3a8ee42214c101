-- The caller stays one of the tags' own.
use Rattle.tag_tests.proofs.tests.jobs.everything.take_posted.Given as goal

abbrev pub invariant-loop-tag : goal.invariant-loop-tag
invariant-loop-tag g l = g.T.TagAllocator.is_own l.tags l.caller
