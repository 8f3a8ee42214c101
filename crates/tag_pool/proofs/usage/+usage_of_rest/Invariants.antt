-- Each call takes one hand off the list, so the recursion ends.
use Rattle.std.proofs.Common.{vec_len}
use Rattle.tag_pool.proofs.usage.+usage_of_rest.Given as goal

abbrev pub decreases-usage_of_rest : goal.decreases-usage_of_rest
decreases-usage_of_rest g l = vec_len l.hands.now
