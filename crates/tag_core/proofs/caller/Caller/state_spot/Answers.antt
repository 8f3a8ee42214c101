-- The states follow one another, 8 words of 8 bytes apart.
use Rattle.std.proofs.Common.{rules}
use Rattle.tag_core.specs.Spacing.{state_at}
use Rattle.tag_core.proofs.caller.Caller.state_spot.Goals as goal

pub returns : goal.returns
unfolding state_at
returns c = search rules
