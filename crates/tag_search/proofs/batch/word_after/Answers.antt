-- The words from the first on come first, and then those before it.
use Rattle.std.proofs.Common.{arith}
use Rattle.tag_search.proofs.Orders.{scan-next, scan-next-before}
use Rattle.tag_search.proofs.batch.word_after.Goals as goal

pub returns-then-visited-behind-clause-order : goal.returns-then-visited-behind-clause-order
returns-then-visited-behind-clause-order c =
    scan-next c.args.count c.args.first c.args.visited c.if-visited-behind.true

pub returns-else-visited-behind-clause-order : goal.returns-else-visited-behind-clause-order
returns-else-visited-behind-clause-order c =
    let on = c.if-visited-behind.false in
    scan-next-before c.args.count c.args.first c.args.visited c.requires.first (omega arith) c.requires.more
