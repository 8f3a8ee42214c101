-- Each half is narrower than the row.
use Rattle.loop_device.proofs.segments.Segments.+greatest.Given as goal

abbrev pub decreases-greatest : goal.decreases-greatest
decreases-greatest l = l.width
