-- The members made so far have the numbers below the loop's; the seat has the records of the others.
use Rattle.step_ledger.specs.Gather.{AreNumbered}
use Rattle.step_ledger.proofs.source.hand_out.Given as goal

abbrev pub invariant-loop-number : goal.invariant-loop-number
invariant-loop-number g l = record {
  rest : g.T.MemberSource.has_rest l.table l.number l.rest;
  made : AreNumbered (g.T.MemberSource.is_new l.table) l.number l.members.items;
}
