-- The members gathered so far are the last of the list; the others are still in it.
use Rattle.std.proofs.Common.{◌≡◌, List, ◌++◌, All, length}
use Rattle.step_ledger.proofs.gather.gather_each.Given as goal

abbrev pub invariant-loop-member : goal.invariant-loop-member
invariant-loop-member g l = record {
  own : All (g.T.Gather.owns l.table) l.members.items;
  came : (came : List _) × (l.members.items ++ came ≡ l.fn.members.items) × g.T.Gather.gathers l.table came l.gathering;
}

abbrev pub decreases-loop-member : goal.decreases-loop-member
decreases-loop-member g l = length l.members.items
