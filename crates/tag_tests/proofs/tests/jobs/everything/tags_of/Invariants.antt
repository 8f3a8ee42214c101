-- At most one tag is counted for each place so far, so the count stays within the array.
use Rattle.std.proofs.Common.{◌≤◌}
use Rattle.tag_tests.proofs.tests.jobs.everything.tags_of.Given as goal

abbrev pub invariant-loop-place : goal.invariant-loop-place
invariant-loop-place l = l.count ≤ l.place
