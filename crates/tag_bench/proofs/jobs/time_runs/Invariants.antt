-- The hands stay the tags' own.
use Rattle.std.proofs.Common.{All}
use Rattle.tag_bench.proofs.jobs.time_runs.Given as goal

abbrev pub invariant-loop-run : goal.invariant-loop-run
invariant-loop-run g l = All (g.T.TagAllocator.is_own l.tags) l.hands.items
