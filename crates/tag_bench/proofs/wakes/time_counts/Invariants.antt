-- The tellers stay those of the book.
use Rattle.tag_bench.proofs.Uses.{All, IsTellerOf}
use Rattle.tag_bench.proofs.wakes.time_counts.Given as goal

abbrev pub invariant-loop-run : goal.invariant-loop-run
invariant-loop-run g l = All (IsTellerOf l.book) l.tellers.items
