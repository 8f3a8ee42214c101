-- The counts are those of the items so far.
use Rattle.std.proofs.Common.{◌≡◌, map, take}
use Rattle.loop_device.specs.Verdict.{AreOfLog, times}
use Rattle.loop_device.proofs.judging.tally.Given as goal

-- the items so far are of the log, and are counted
abbrev pub invariant-loop-item : goal.invariant-loop-item
invariant-loop-item l = record {
  known : AreOfLog l.ios (take l.item-index l.done);
  counts : l.counts.items ≡ map (λ io. times (take l.item-index l.done) io.line) l.ios;
}
