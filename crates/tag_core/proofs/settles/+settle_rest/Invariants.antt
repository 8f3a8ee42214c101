-- Each call takes one caller off the list.
use Rattle.std.proofs.Common.{vec_len}
use Rattle.tag_core.proofs.settles.+settle_rest.Given as goal

abbrev pub decreases-settle_rest : goal.decreases-settle_rest
decreases-settle_rest g l = vec_len l.callers.now
