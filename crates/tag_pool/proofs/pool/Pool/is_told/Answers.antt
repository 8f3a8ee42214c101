-- The side that was lent is the hand's in the set, and what happens to it there happens to the hand.
use Rattle.tag_pool.proofs.Uses.{ap, arith, length, Record, refl}
use Rattle.tag_pool.specs.Bell.{LooksIfTold}
use Rattle.tag_pool.proofs.InOneSet.{changes, holds_same, makes, still}
use Rattle.tag_pool.proofs.pool.Pool.is_told.Goals as goal

pub returns-clause-hand : goal.returns-clause-hand
returns-clause-hand g c = still c.args.hand.now c.args.kind c.side_mut.result.now _ c.side_mut.ensures.value c.args.self.now
    c.requires.hand c.map.result.now c.map.ensures c.is_told.ensures.caller refl

pub returns-clause-looks : goal.returns-clause-looks
returns-clause-looks g c = let did = c.is_told.ensures in
    changes c.args.hand.now c.args.kind c.side_mut.result.now _ c.side_mut.ensures.value
    (LooksIfTold c.is_told.result) (record {
      step = did.step;
      stays = record { waits = did.waits; tried = did.tried; owes = did.owes; holds = did.kept; hint = refl };
    })

pub returns-clause-same : goal.returns-clause-same
returns-clause-same g c = holds_same c.args.hand.now c.args.kind c.side_mut.result.now _ c.side_mut.ensures.value
    c.is_told.ensures.kept

pub returns-clause-bound : goal.returns-clause-bound
returns-clause-bound g c = makes c.args.hand.now c.args.kind c.side_mut.result.now _ c.side_mut.ensures.value 1
    (let added = ap (λ (r : Record g.row.R.Denot). length r.steps) c.is_told.ensures.step.1.known in omega arith)
