-- A load changes nothing. The record gains the step with what was found.
use Rattle.tag_core.proofs.Uses.{looked_all, record_of, refl}
use Rattle.tag_core.specs.Spacing.{waiters_at}
use Rattle.tag_core.proofs.Stand.{waiters_in}
use Rattle.tag_core.proofs.FewCallers.{few}
use Rattle.tag_core.proofs.AllowedWaits.{look_all_allowed}
use Rattle.tag_core.proofs.Asking.{narrow, asked, left, after, recorded, slots, plus_none}
use Rattle.tag_core.proofs.Holdings.{adds_keeps}
use Rattle.tag_core.proofs.map.Map.look_all.Goals as goal

pub load-requires : goal.load-requires
load-requires g c =
    let m = c.args.self.now in let w = c.args.caller.now in let k = w.shape.value in let own = c.requires in
    let a = asked m w own w.seat.id w.seat.me waiters_at c.waiters_spot.result (λ n. n) 0 0 looked_all
    c.waiters_spot.ensures (waiters_in k.layout) (look_all_allowed g.row.R.Denot k (narrow m w own) w.seat.id w.seat.me
    (record_of w) w.knows w.carries (few m w own)) in (own.0, a.0, a.1)

pub invariant_of-caller : goal.invariant_of-caller
invariant_of-caller g c =
    let w = c.args.caller.now in let did = c.load.ensures.2 (record_of w) c.waiters_spot.ensures w.knows in
    after (left w did refl refl (plus_none w.won) (plus_none w.back)) w.wide w.unspent w.few_back

pub returns-clause-step : goal.returns-clause-step
returns-clause-step g c =
    let w = c.args.caller.now in let did = c.load.ensures.2 (record_of w) c.waiters_spot.ensures w.knows in
    let l = left w did refl refl (plus_none w.won) (plus_none w.back) in
    record { known = recorded l; slots = slots l; same_map = c.load.ensures.0 }

pub returns-clause-kept : goal.returns-clause-kept
returns-clause-kept g c = adds_keeps c.args.self.now c.args.caller.now _ c.requires _ (returns-clause-step g c) refl
