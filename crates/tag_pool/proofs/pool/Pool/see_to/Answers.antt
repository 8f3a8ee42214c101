-- The side that was lent is the hand's in the set, and what happens to it there happens to the hand.
use Rattle.std.specs.Prelude.{◌≡◌}
use Rattle.tag_pool.proofs.Uses.{ap, inr, max, Record, record_of, refl, Side}
use Rattle.tag_pool.specs.Sides.{caller_of, see_to_steps, SeesTo}
use Rattle.tag_pool.proofs.InOneSet.{both_sides, changes, holds_same, makes_few, still, told_few}
use Rattle.tag_pool.proofs.pool.Pool.see_to.Goals as goal

pub returns-clause-hand : goal.returns-clause-hand
returns-clause-hand g c = still c.args.hand.now c.args.kind c.side_mut.result.now _ c.side_mut.ensures.value c.args.self.now
    c.requires.hand c.map.result.now c.map.ensures c.see_to.ensures.caller refl

pub returns-clause-sees_to : goal.returns-clause-sees_to
returns-clause-sees_to g c = let did = c.see_to.ensures in
    changes c.args.hand.now c.args.kind c.side_mut.result.now _ c.side_mut.ensures.value
    (SeesTo (max c.args.freed 1) see_to_steps c.see_to.result) (record {
      done = did.done;
      tells = did.told;
      turns = inr did.turns;
      waits = did.waits;
      holds = did.kept;
      hint = refl;
    })

pub returns-clause-same : goal.returns-clause-same
returns-clause-same g c = holds_same c.args.hand.now c.args.kind c.side_mut.result.now _ c.side_mut.ensures.value
    c.see_to.ensures.kept

pub returns-clause-back : goal.returns-clause-back
returns-clause-back g c = both_sides c.args.hand.now c.args.kind c.side_mut.result.now _ c.side_mut.ensures.value
    (λ (a b : Side g.row.R.Denot). (record_of (caller_of b)).back ≡ (record_of (caller_of a)).back)
    (ap (λ (r : Record g.row.R.Denot). r.back) c.see_to.ensures.told.only.known)

pub returns-clause-bound : goal.returns-clause-bound
returns-clause-bound g c = makes_few c.args.hand.now c.args.kind c.side_mut.result.now _ c.side_mut.ensures.value see_to_steps
    (told_few _ _ _ _ c.see_to.ensures.told)
