-- The side that was lent is the hand's in the set, and what happens to it there happens to the hand.
use Rattle.std.specs.Prelude.{◌≡◌, ◌⊎◌}
use Rattle.tag_pool.proofs.Uses.{ap, Map, Record, record_of, refl, Side, subst}
use Rattle.tag_core.specs.Callers.{layout_of}
use Rattle.tag_bell.specs.Calls.{nobody, Tells}
use Rattle.tag_bell.specs.Looks.{SawFree}
use Rattle.tag_pool.specs.Hands.{layout_of as layout_in}
use Rattle.tag_pool.specs.Sides.{caller_of, see_to_all_steps, SeesTo}
use Rattle.tag_pool.proofs.InOneSet.{both_sides, changes, holds_same, makes_few, still, told_few}
use Rattle.tag_pool.proofs.pool.Pool.see_to_all.Goals as goal

pub returns-clause-hand : goal.returns-clause-hand
returns-clause-hand g c = still c.args.hand.now c.args.kind c.side_mut.result.now _ c.side_mut.ensures.value c.args.self.now
    c.requires.hand c.map.result.now c.map.ensures c.settle.ensures.caller refl

pub returns-clause-sees_to : goal.returns-clause-sees_to
returns-clause-sees_to g c = let did = c.settle.ensures in
    changes c.args.hand.now c.args.kind c.side_mut.result.now _ c.side_mut.ensures.value
    (SeesTo 1 (see_to_all_steps (layout_in c.args.self.now c.args.kind)) c.settle.result) (record {
      done = did.done;
      tells = subst (λ (m : Map g.row.R.Denot). Tells (see_to_all_steps (layout_of m)) c.settle.result
          c.side_mut.result.now.caller c.settle.new.caller) c.map.ensures did.told;
      turns = did.turns;
      waits = did.waits;
      holds = did.kept;
      hint = refl;
    })

pub returns-clause-saw : goal.returns-clause-saw
returns-clause-saw g c = both_sides c.args.hand.now c.args.kind c.side_mut.result.now _ c.side_mut.ensures.value
    (λ (a b : Side g.row.R.Denot). (c.settle.result ≡ nobody) ⊎ SawFree (caller_of a) (caller_of b)) c.settle.ensures.saw

pub returns-clause-same : goal.returns-clause-same
returns-clause-same g c = holds_same c.args.hand.now c.args.kind c.side_mut.result.now _ c.side_mut.ensures.value
    c.settle.ensures.kept

pub returns-clause-back : goal.returns-clause-back
returns-clause-back g c = both_sides c.args.hand.now c.args.kind c.side_mut.result.now _ c.side_mut.ensures.value
    (λ (a b : Side g.row.R.Denot). (record_of (caller_of b)).back ≡ (record_of (caller_of a)).back)
    (ap (λ (r : Record g.row.R.Denot). r.back) c.settle.ensures.told.only.known)

pub returns-clause-bound : goal.returns-clause-bound
returns-clause-bound g c = makes_few c.args.hand.now c.args.kind c.side_mut.result.now _ c.side_mut.ensures.value
    (see_to_all_steps (layout_in c.args.self.now c.args.kind))
    (told_few _ c.settle.result c.side_mut.result.now.caller c.settle.new.caller
    (subst (λ (m : Map g.row.R.Denot). Tells (see_to_all_steps (layout_of m)) c.settle.result
    c.side_mut.result.now.caller c.settle.new.caller) c.map.ensures c.settle.ensures.told))
