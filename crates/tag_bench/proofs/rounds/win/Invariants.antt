-- The hand stays one of the tags' own.
use Rattle.tag_bench.proofs.rounds.win.Given as goal

abbrev pub invariant-loop : goal.invariant-loop
invariant-loop g l = g.T.TagAllocator.is_own l.tags l.hand
