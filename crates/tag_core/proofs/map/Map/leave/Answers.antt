-- The step clears the caller's own bit, and changes nothing else.
use Rattle.std.specs.Prelude.{◌-◌, ◌^◌}
use Rattle.tag_core.proofs.Uses.{Allows, bit_and, bit_not, bit_of, none, record_of, refl, Shown, step, subst, sym, w64, ℕ}
use Rattle.tag_core.specs.Plays as plays
use Rattle.tag_core.specs.Spacing.{waiters_at}
use Rattle.tag_core.proofs.Stand.{waiters_in}
use Rattle.tag_core.proofs.FewCallers.{few}
use Rattle.tag_core.proofs.AllowedWaits.{leave_allowed}
use Rattle.tag_core.proofs.Asking.{narrow, asked, left, after, recorded, slots, plus_none}
use Rattle.tag_core.proofs.Holdings.{adds_keeps}
use Rattle.tag_core.proofs.map.Map.leave.Goals as goal

pub fetch_and-requires : goal.fetch_and-requires
fetch_and-requires g c =
    let m = c.args.self.now in let w = c.args.caller.now in let k = w.shape.value in let own = c.requires.caller in
    let a = asked m w own w.seat.id w.seat.me waiters_at c.waiters_spot.result
    (λ n. bit_and n (2 ^ 64 - 1 - bit_of w.number)) (2 ^ 64 - 1 - bit_of w.number) 0 plays.left c.waiters_spot.ensures
    (waiters_in k.layout) (leave_allowed g.row.R.Denot k (narrow m w own) w.seat.id w.seat.me (record_of w) w.knows
    w.carries (few m w own) c.requires.last) in (
      own.0,
      a.0,
      subst (λ (bit : ℕ). Allows (Shown m.table.shared.key) m.table.shared.table_id.slots w.seat.id w.seat.me
          c.waiters_spot.result (λ n. bit_and n (bit_not w64 bit))
          (plays.left (step m.table.shared.table_id.slots c.waiters_spot.result (bit_not w64 bit) 0 none) w.seat.me))
          (sym c.own_bit-bit.ensures) a.1,
    )

pub invariant_of-caller : goal.invariant_of-caller
invariant_of-caller g c =
    let w = c.args.caller.now in let did = c.fetch_and.ensures.2 (record_of w) c.waiters_spot.ensures w.knows in
    after (left w did refl refl (plus_none w.won) (plus_none w.back)) w.wide w.unspent w.few_back

pub returns-clause-step : goal.returns-clause-step
returns-clause-step g c =
    let w = c.args.caller.now in let did = c.fetch_and.ensures.2 (record_of w) c.waiters_spot.ensures w.knows in
    let l = left w did refl refl (plus_none w.won) (plus_none w.back) in
    (c.fetch_and.result, record { known = recorded l; slots = slots l; same_map = c.fetch_and.ensures.0 })

pub returns-clause-kept : goal.returns-clause-kept
returns-clause-kept g c =
    adds_keeps c.args.self.now c.args.caller.now _ c.requires.caller _ (returns-clause-step g c).1 refl
