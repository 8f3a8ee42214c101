-- The side that was lent is the hand's in the set, and what happens to it there happens to the hand.
use Rattle.tag_pool.proofs.Uses.{ap, arith, length, Record, refl}
use Rattle.tag_pool.specs.Bell.{GetsUp}
use Rattle.tag_pool.proofs.InOneSet.{changes, holds_same, makes, still}
use Rattle.tag_pool.proofs.pool.Pool.get_up.Goals as goal

pub returns-clause-hand : goal.returns-clause-hand
returns-clause-hand g c = still c.args.hand.now c.args.kind c.side_mut.result.now _ c.side_mut.ensures.value c.args.self.now
    c.requires.hand c.map.result.now c.map.ensures c.get_up.ensures.caller refl

pub returns-clause-gets_up : goal.returns-clause-gets_up
returns-clause-gets_up g c = let did = c.get_up.ensures in
    changes c.args.hand.now c.args.kind c.side_mut.result.now _ c.side_mut.ensures.value
    (GetsUp c.get_up.result) (record {
      up = did.up;
      owes = did.owes;
      leaves = did.steps;
      holds = did.kept;
      hint = refl;
    })

pub returns-clause-same : goal.returns-clause-same
returns-clause-same g c = holds_same c.args.hand.now c.args.kind c.side_mut.result.now _ c.side_mut.ensures.value
    c.get_up.ensures.kept

pub returns-clause-bound : goal.returns-clause-bound
returns-clause-bound g c = makes c.args.hand.now c.args.kind c.side_mut.result.now _ c.side_mut.ensures.value 2
    (let added = ap (λ (r : Record g.row.R.Denot). length r.steps) c.get_up.ensures.steps.only.known in omega arith)
