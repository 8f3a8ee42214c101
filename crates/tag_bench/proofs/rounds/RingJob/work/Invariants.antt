-- The hand stays one of the tags' own, and the place of its oldest tag is one of those in use.
use Rattle.std.proofs.Common.{◌<◌}
use Rattle.tag_bench.proofs.rounds.RingJob.work.Given as goal

abbrev pub invariant-loop-tag : goal.invariant-loop-tag
invariant-loop-tag g l = g.T.TagAllocator.is_own l.tags l.hand

abbrev pub invariant-loop-round : goal.invariant-loop-round
invariant-loop-round g l = record { own : g.T.TagAllocator.is_own l.tags l.hand; oldest : l.oldest < l.held }

abbrev pub invariant-loop-tag-2 : goal.invariant-loop-tag-2
invariant-loop-tag-2 g l = g.T.TagAllocator.is_own l.tags l.hand
