-- Each word of the set was looked at once, by two steps.
use Rattle.std.proofs.Common.{arith}
use Rattle.tag_pool.proofs.Around.{few_looks}
use Rattle.tag_pool.proofs.pool.Pool.dump.Goals as goal

pub returns-clause-bound : goal.returns-clause-bound
returns-clause-bound g c =
    let p = c.pack.ensures.packs in let made =
    few_looks c.args.kind p.found c.args.hand.now c.pack.new.hand p.around.looks in
    let each = p.around.each in omega arith
