-- The total of the play's rule is that of its tags.
use Rattle.loop_device.proofs.Uses.{pool_of, total_of}
use Rattle.loop_device.proofs.playing.play.Given as goal

abbrev pub ghosts-play_under : goal.ghosts-play_under
ghosts-play_under g a = record { total = total_of (pool_of a.tags) }
