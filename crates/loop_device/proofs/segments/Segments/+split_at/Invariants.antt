-- Each half is narrower than the row.
use Rattle.loop_device.proofs.segments.Segments.+split_at.Given as goal

abbrev pub decreases-split_at : goal.decreases-split_at
decreases-split_at l = l.width
