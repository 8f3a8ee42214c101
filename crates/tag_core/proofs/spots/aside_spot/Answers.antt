-- The stride is 8 words of 8 bytes, so the number is that of `aside_at`.
use Rattle.std.proofs.Common.{rules}
use Rattle.tag_core.specs.Spacing.{aside_at}
use Rattle.tag_core.proofs.spots.aside_spot.Goals as goal

pub returns : goal.returns
unfolding aside_at
returns c = search rules
