-- The pool is opened by `open_into`, whose number is returned in 32 bits as it is.
use Rattle.std.proofs.Common.{sym, ◌∙◌}
use Rattle.tag_c.proofs.Calling.{stored}
use Rattle.tag_c.proofs.pools.tags_open.Goals as goal

pub returns-clause-opens : goal.returns-clause-opens
returns-clause-opens c = λ zero.
    c.open_into.ensures.opens (sym (stored c.open_into.result c.open_into.type_inv) ∙ zero)
