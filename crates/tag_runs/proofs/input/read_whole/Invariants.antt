-- The bytes read so far, followed by those that the reader still has, are the input.
use Rattle.std.proofs.Common.{◌≡◌, ◌≤◌, ◌-◌, ◌+◌, vec_len}
use Rattle.std.specs.Io.KnownBytes.{Consumes}
use Rattle.tag_lines.specs.declared.lines.TheConstants.{MAX_INPUT}
use Rattle.tag_runs.proofs.input.read_whole.Given as goal

-- the bytes read so far are a prefix of the input, and no read has failed
abbrev pub invariant-loop-count : goal.invariant-loop-count
invariant-loop-count g l = record {
  read : Consumes (g.R.Read.remaining l.fn.reader) (g.R.Read.remaining l.reader) l.input.items;
  short : vec_len l.input ≤ MAX_INPUT;
  failed : g.R.Source.has_failed l.reader ≡ g.R.Source.has_failed l.fn.reader;
}

abbrev pub decreases-loop-count : goal.decreases-loop-count
decreases-loop-count g l = MAX_INPUT + 1 - vec_len l.input
