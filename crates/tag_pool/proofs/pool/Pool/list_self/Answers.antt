-- The side that was lent is the hand's in the set, and what happens to it there happens to the hand.
use Rattle.tag_pool.proofs.Uses.{refl}
use Rattle.tag_pool.specs.Bell.{ListsSelf}
use Rattle.tag_pool.proofs.FewSteps.{lists_by_few}
use Rattle.tag_pool.proofs.InOneSet.{changes, holds_same, makes_few, still}
use Rattle.tag_pool.proofs.pool.Pool.list_self.Goals as goal

pub returns-clause-hand : goal.returns-clause-hand
returns-clause-hand g c = still c.args.hand.now c.args.kind c.side_mut.result.now _ c.side_mut.ensures.value c.args.self.now
    c.requires.hand c.map.result.now c.map.ensures c.list_self.ensures.caller refl

pub returns-clause-lists : goal.returns-clause-lists
returns-clause-lists g c = let did = c.list_self.ensures in
    changes c.args.hand.now c.args.kind c.side_mut.result.now _ c.side_mut.ensures.value
    (ListsSelf c.args.waiter c.args.turn) (record {
      waiting = did.waiting;
      owes = did.owes;
      lists = did.steps;
      holds = did.kept;
      hint = refl;
    })

pub returns-clause-same : goal.returns-clause-same
returns-clause-same g c = holds_same c.args.hand.now c.args.kind c.side_mut.result.now _ c.side_mut.ensures.value
    c.list_self.ensures.kept

pub returns-clause-bound : goal.returns-clause-bound
returns-clause-bound g c = makes_few c.args.hand.now c.args.kind c.side_mut.result.now _ c.side_mut.ensures.value 4
    (lists_by_few c.args.waiter c.args.turn c.side_mut.result.now.caller c.list_self.new.caller c.list_self.ensures.steps)
