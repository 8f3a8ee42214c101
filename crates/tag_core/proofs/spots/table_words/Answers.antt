-- The stride is 8 words of 8 bytes, so the number is that of `table_width`.
use Rattle.std.proofs.Common.{rules}
use Rattle.tag_core.specs.Spacing.{table_width}
use Rattle.tag_core.proofs.spots.table_words.Goals as goal

pub returns : goal.returns
unfolding table_width
returns c = search rules
