-- A load changes nothing. The record gains the step with the berth that was found.
use Rattle.tag_core.proofs.Waiters.{found_agrees}
use Rattle.tag_core.proofs.Uses.{AgreesWith, ap, Bell, Berth, berth_of, LookAt, looked_at, record_of, refl, Stepped, subst, sym, ℕ, ◌∙◌}
use Rattle.tag_core.specs.Spacing.{berth_at}
use Rattle.tag_core.proofs.Stand.{berth_in}
use Rattle.tag_core.proofs.FewCallers.{few}
use Rattle.tag_core.proofs.AllowedWaits.{look_at_allowed}
use Rattle.tag_core.proofs.Asking.{narrow, asked, left, after, recorded, slots, plus_none}
use Rattle.tag_core.proofs.Holdings.{adds_keeps}
use Rattle.tag_core.proofs.map.Map.look_at.Goals as goal

pub load-found-requires : goal.load-found-requires
load-found-requires g c =
    let m = c.args.self.now in let w = c.args.caller.now in let k = w.shape.value in let own = c.requires.caller in
    let d : ℕ = c.args.whom in
    let a = asked m w own w.seat.id w.seat.me (berth_at d) c.berth_spot.result (λ n. n) 0 0 looked_at c.berth_spot.ensures
    (berth_in k.layout d c.requires.within) (look_at_allowed g.row.R.Denot k (narrow m w own) w.seat.id w.seat.me
    (record_of w) w.knows w.carries (few m w own) d c.requires.within) in (own.0, a.0, a.1)

pub invariant_of-caller : goal.invariant_of-caller
invariant_of-caller g c =
    let w = c.args.caller.now in
    let did = c.load-found.ensures.2 c.args.whom (record_of w) c.berth_spot.ensures w.knows in
    after (left w did refl refl (plus_none w.won) (plus_none w.back)) w.wide w.unspent w.few_back

pub returns-clause-step : goal.returns-clause-step
returns-clause-step g c =
    let w = c.args.caller.now in
    let did = c.load-found.ensures.2 c.args.whom (record_of w) c.berth_spot.ensures w.knows in
    let made = subst (λ (b : Berth). Stepped (Bell (LookAt c.args.whom b)) (record_of w) w.seat.me c.load-found.new.seat.me)
    (sym c.of_word.ensures.berth) did in
    let l = left w made refl refl (plus_none w.won) (plus_none w.back) in
    record { known = recorded l; slots = slots l; same_map = c.load-found.ensures.0 }

pub returns-clause-own : goal.returns-clause-own
returns-clause-own g c is =
    let w = c.args.caller.now in
    let did = c.load-found.ensures.2 c.args.whom (record_of w) c.berth_spot.ensures w.knows in
    let z = did.shown in subst (AgreesWith (record_of w).steps) (sym c.of_word.ensures.berth)
    (found_agrees w.number w.shape.value.callers z.history z.lawful.finds _ (record_of w).steps (sym z.known.steps)
    (berth_of c.load-found.result) (λ x finds. finds ∙ ap x.waits.berths is))

pub returns-clause-kept : goal.returns-clause-kept
returns-clause-kept g c = adds_keeps c.args.self.now c.args.caller.now _ c.requires.caller _ (returns-clause-step g c) refl
