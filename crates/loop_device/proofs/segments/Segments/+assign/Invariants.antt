-- Each half is narrower than the row.
use Rattle.loop_device.proofs.segments.Segments.+assign.Given as goal

abbrev pub decreases-assign : goal.decreases-assign
decreases-assign l = l.width
