-- Each number so far is that of a member.
use Rattle.step_ledger.proofs.Uses.{HasAll, map}
use Rattle.step_ledger.proofs.numbered.least_missing.Given as goal

abbrev pub invariant-loop-number : goal.invariant-loop-number
invariant-loop-number g l = HasAll (map g.M.Numbered.number_of l.members) l.number
