-- The caller stays one of the tags' own.
use Rattle.tag_tests.proofs.tests.jobs.everything.do_everything.Given as goal

abbrev pub invariant-loop-round : goal.invariant-loop-round
invariant-loop-round g l = g.T.TagAllocator.is_own l.tags l.caller
