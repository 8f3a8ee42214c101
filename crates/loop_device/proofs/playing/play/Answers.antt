-- The hands of new tags are theirs, and hold none of them.
use Rattle.loop_device.proofs.playing.play.Goals as goal

pub play_under-requires-clause-hands : goal.play_under-requires-clause-hands
play_under-requires-clause-hands g c κs within = λ k d low.
    (c.in-Ok.ensures.ok.counts.own k d low, c.in-Ok.ensures.ok.none_held k d low)
