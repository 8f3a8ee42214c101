-- The stride is 8 words of 8 bytes, so the number is that of `state_at` for tag 0.
use Rattle.std.proofs.Common.{rules}
use Rattle.tag_core.specs.Spacing.{state_at}
use Rattle.tag_core.proofs.spots.first_state.Goals as goal

pub returns : goal.returns
unfolding state_at
returns c = search rules
