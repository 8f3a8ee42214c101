-- The step sets the caller's own bit, and changes nothing else.
use Rattle.tag_core.proofs.Uses.{Allows, bit_of, bit_or, entered, none, record_of, refl, Shown, step, subst, sym, ℕ}
use Rattle.tag_core.specs.Spacing.{waiters_at}
use Rattle.tag_core.proofs.Stand.{waiters_in}
use Rattle.tag_core.proofs.FewCallers.{few}
use Rattle.tag_core.proofs.AllowedWaits.{enter_allowed}
use Rattle.tag_core.proofs.Asking.{narrow, asked, left, after, recorded, slots, plus_none}
use Rattle.tag_core.proofs.Holdings.{adds_keeps}
use Rattle.tag_core.proofs.map.Map.enter.Goals as goal

pub fetch_or-requires : goal.fetch_or-requires
fetch_or-requires g c =
    let m = c.args.self.now in let w = c.args.caller.now in let k = w.shape.value in let own = c.requires in
    let a = asked m w own w.seat.id w.seat.me waiters_at c.waiters_spot.result (λ n. bit_or n (bit_of w.number))
    (bit_of w.number) 0 entered c.waiters_spot.ensures (waiters_in k.layout)
    (enter_allowed g.row.R.Denot k (narrow m w own) w.seat.id w.seat.me (record_of w) w.knows w.carries (few m w own)) in (
      own.0,
      a.0,
      subst (λ (bit : ℕ). Allows (Shown m.table.shared.key) m.table.shared.table_id.slots w.seat.id w.seat.me
          c.waiters_spot.result (λ n. bit_or n bit)
          (entered (step m.table.shared.table_id.slots c.waiters_spot.result bit 0 none) w.seat.me))
          (sym c.own_bit-bit.ensures) a.1,
    )

pub invariant_of-caller : goal.invariant_of-caller
invariant_of-caller g c =
    let w = c.args.caller.now in let did = c.fetch_or.ensures.2 (record_of w) c.waiters_spot.ensures w.knows in
    after (left w did refl refl (plus_none w.won) (plus_none w.back)) w.wide w.unspent w.few_back

pub returns-clause-step : goal.returns-clause-step
returns-clause-step g c =
    let w = c.args.caller.now in let did = c.fetch_or.ensures.2 (record_of w) c.waiters_spot.ensures w.knows in
    let l = left w did refl refl (plus_none w.won) (plus_none w.back) in
    (c.fetch_or.result, record { known = recorded l; slots = slots l; same_map = c.fetch_or.ensures.0 })

pub returns-clause-kept : goal.returns-clause-kept
returns-clause-kept g c =
    adds_keeps c.args.self.now c.args.caller.now _ c.requires _ (returns-clause-step g c).1 refl
