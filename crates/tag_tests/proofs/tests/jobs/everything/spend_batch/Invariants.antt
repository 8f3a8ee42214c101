-- The caller stays one of the tags' own.
use Rattle.tag_tests.proofs.tests.jobs.everything.spend_batch.Given as goal

abbrev pub invariant-loop-tag : goal.invariant-loop-tag
invariant-loop-tag g l = g.T.TagAllocator.is_own l.tags l.caller

abbrev pub invariant-loop-tag-2 : goal.invariant-loop-tag-2
invariant-loop-tag-2 g l = g.T.TagAllocator.is_own l.tags l.caller
