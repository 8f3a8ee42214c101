-- The number is that of `clock_at`.
use Rattle.std.proofs.Common.{rules}
use Rattle.tag_core.specs.Spacing.{bell_at}
use Rattle.tag_core.proofs.spots.clock_spot.Goals as goal

pub returns : goal.returns
unfolding bell_at
returns c = search rules
