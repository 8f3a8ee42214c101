-- The lines so far are read, and the rest is left.
use Rattle.loop_device.proofs.Uses.{length, lines_of, progress_of}
use Rattle.std.proofs.Common.{◌≤◌, ◌+◌}
use Rattle.loop_device.proofs.LogFacts.{IsReadTo}
use Rattle.loop_device.proofs.io_log.read_lines.Given as goal

-- the lines so far are read, and each had a byte
abbrev pub invariant-loop-rest : goal.invariant-loop-rest
invariant-loop-rest l = record {
  read : IsReadTo (lines_of l.fn.body) (progress_of l.reader) (lines_of l.rest);
  room : l.reader.number + length l.rest ≤ length l.fn.body + 2;
}

abbrev pub decreases-loop-rest : goal.decreases-loop-rest
decreases-loop-rest l = length l.rest
