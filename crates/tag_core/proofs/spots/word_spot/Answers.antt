-- The stride is 8 words of 8 bytes, so the number is that of `word_at`.
use Rattle.std.proofs.Common.{rules}
use Rattle.tag_core.specs.Spacing.{word_at}
use Rattle.tag_core.proofs.spots.word_spot.Goals as goal

pub returns : goal.returns
unfolding word_at
returns c = search rules
