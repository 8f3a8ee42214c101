-- The side that was lent is the hand's in the set, and what happens to it there happens to the hand.
use Rattle.tag_pool.proofs.Uses.{refl, Side, subst, sym}
use Rattle.tag_core.specs.declared.berth.Waiter.TheVariants.{Sleeper}
use Rattle.tag_bell.specs.Callers.{HasTriedAll, IsWaiting, OwesNothing}
use Rattle.tag_pool.specs.Bell.{SleepsUntilTold}
use Rattle.tag_pool.specs.Sides.{caller_of}
use Rattle.tag_pool.proofs.InOneSet.{changes, holds_same, still}
use Rattle.tag_pool.proofs.pool.Pool.sleep.Goals as goal

pub sleep-requires-clause-waiting : goal.sleep-requires-clause-waiting
sleep-requires-clause-waiting g c = subst (λ (s : Side g.row.R.Denot). IsWaiting Sleeper (caller_of s))
    (sym c.side_mut.ensures.value) c.requires.waiting

pub sleep-requires-clause-in_vain : goal.sleep-requires-clause-in_vain
sleep-requires-clause-in_vain g c = subst (λ (s : Side g.row.R.Denot). HasTriedAll (caller_of s))
    (sym c.side_mut.ensures.value) c.requires.may.0

pub sleep-requires-clause-done : goal.sleep-requires-clause-done
sleep-requires-clause-done g c = λ kind. subst (λ (s : Side g.row.R.Denot). OwesNothing kind (caller_of s))
    (sym c.side_mut.ensures.value) (c.requires.may.1 kind)

pub returns-clause-hand : goal.returns-clause-hand
returns-clause-hand g c = still c.args.hand.now c.args.kind c.side_mut.result.now _ c.side_mut.ensures.value c.args.self.now
    c.requires.hand c.map.result.now c.map.ensures c.sleep.ensures.caller refl

pub returns-clause-sleeps : goal.returns-clause-sleeps
returns-clause-sleeps g c = let did = c.sleep.ensures in
    changes c.args.hand.now c.args.kind c.side_mut.result.now _ c.side_mut.ensures.value
    SleepsUntilTold (record {
      sleeps = did.sleeps;
      stays = record { waits = did.waits; tried = did.tried; owes = did.owes; holds = did.kept; hint = refl };
    })

pub returns-clause-same : goal.returns-clause-same
returns-clause-same g c = holds_same c.args.hand.now c.args.kind c.side_mut.result.now _ c.side_mut.ensures.value
    c.sleep.ensures.kept
