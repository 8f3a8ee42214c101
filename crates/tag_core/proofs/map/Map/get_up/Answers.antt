-- The swap leaves the caller's berth up. The record gains the step with the berth that was there.
use Rattle.tag_core.proofs.Waiters.{found_agrees}
use Rattle.tag_core.proofs.Uses.{AgreesWith, Bell, Berth, berth_of, GetUp, got_up, record_of, refl, Stepped, subst, sym}
use Rattle.tag_core.specs.Spacing.{berth_at}
use Rattle.tag_core.proofs.Stand.{berth_in}
use Rattle.tag_core.proofs.FewCallers.{few}
use Rattle.tag_core.proofs.AllowedWaits.{get_up_allowed}
use Rattle.tag_core.proofs.Asking.{narrow, asked, left, after, recorded, slots, plus_none}
use Rattle.tag_core.proofs.Holdings.{adds_keeps}
use Rattle.tag_core.proofs.map.Map.get_up.Goals as goal

pub swap-found-requires : goal.swap-found-requires
swap-found-requires g c =
    let m = c.args.self.now in let w = c.args.caller.now in let k = w.shape.value in let own = c.requires in
    let a = asked m w own w.seat.id w.seat.me (berth_at w.number) c.berth_spot.result (λ _. 0) 0 0 got_up
    c.berth_spot.ensures (berth_in k.layout w.number (few m w own)) (get_up_allowed g.row.R.Denot k (narrow m w own)
    w.seat.id w.seat.me (record_of w) w.knows w.carries (few m w own)) in (own.0, a.0, a.1)

pub invariant_of-caller : goal.invariant_of-caller
invariant_of-caller g c =
    let w = c.args.caller.now in let did = c.swap-found.ensures.2 (record_of w) c.berth_spot.ensures w.knows in
    after (left w did refl refl (plus_none w.won) (plus_none w.back)) w.wide w.unspent w.few_back

pub returns-clause-step : goal.returns-clause-step
returns-clause-step g c =
    let w = c.args.caller.now in let did = c.swap-found.ensures.2 (record_of w) c.berth_spot.ensures w.knows in
    let made = subst (λ (b : Berth). Stepped (Bell (GetUp w.number b)) (record_of w) w.seat.me c.swap-found.new.seat.me)
    (sym c.of_word.ensures.berth) did in
    let l = left w made refl refl (plus_none w.won) (plus_none w.back) in
    record { known = recorded l; slots = slots l; same_map = c.swap-found.ensures.0 }

pub returns-clause-own : goal.returns-clause-own
returns-clause-own g c =
    let w = c.args.caller.now in let did = c.swap-found.ensures.2 (record_of w) c.berth_spot.ensures w.knows in
    let z = did.shown in subst (AgreesWith (record_of w).steps) (sym c.of_word.ensures.berth)
    (found_agrees w.number w.shape.value.callers z.history z.lawful.finds _ (record_of w).steps (sym z.known.steps)
    (berth_of c.swap-found.result) (λ x finds. finds))

pub returns-clause-kept : goal.returns-clause-kept
returns-clause-kept g c = adds_keeps c.args.self.now c.args.caller.now _ c.requires _ (returns-clause-step g c) refl
