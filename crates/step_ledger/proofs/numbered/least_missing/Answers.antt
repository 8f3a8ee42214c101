-- All numbers below the loop's are there, so the first that is not is the least.
use Rattle.step_ledger.proofs.Uses.{below_more, Has, map}
use Rattle.step_ledger.proofs.numbered.least_missing.Goals as goal

pub loop-number-preserved : goal.loop-number-preserved
loop-number-preserved g c = below_more (Has (map g.M.Numbered.number_of c.args.members.now)) c.loop-number.number
    c.loop-number.invariant (c.in-Some.field-0, c.in-Some.ensures.some)
