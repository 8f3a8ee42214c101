-- The clock goes on by one turn. The record gains the step with the turn that was found.
use Rattle.std.specs.Prelude.{◌%◌, ◌+◌, ◌^◌}
use Rattle.tag_core.proofs.Uses.{record_of, refl, turn_taken}
use Rattle.tag_core.specs.Spacing.{clock_at}
use Rattle.tag_core.proofs.Stand.{clock_in}
use Rattle.tag_core.proofs.FewCallers.{few}
use Rattle.tag_core.proofs.AllowedWaits.{turn_allowed}
use Rattle.tag_core.proofs.Asking.{narrow, asked, left, after, recorded, slots, plus_none}
use Rattle.tag_core.proofs.Holdings.{adds_keeps}
use Rattle.tag_core.proofs.map.Map.take_turn.Goals as goal

pub fetch_add-found-requires : goal.fetch_add-found-requires
fetch_add-found-requires g c =
    let m = c.args.self.now in let w = c.args.caller.now in let k = w.shape.value in let own = c.requires in
    let a = asked m w own w.seat.id w.seat.me clock_at c.clock_spot.result (λ n. (n + 8) % 2 ^ 64) 8 0 turn_taken
    c.clock_spot.ensures (clock_in k.layout) (turn_allowed g.row.R.Denot k (narrow m w own) w.seat.id w.seat.me
    (record_of w) w.knows w.carries (few m w own)) in (own.0, a.0, a.1)

pub invariant_of-caller : goal.invariant_of-caller
invariant_of-caller g c =
    let w = c.args.caller.now in let did = c.fetch_add-found.ensures.2 (record_of w) c.clock_spot.ensures w.knows in
    after (left w did refl refl (plus_none w.won) (plus_none w.back)) w.wide w.unspent w.few_back

pub returns-clause-step : goal.returns-clause-step
returns-clause-step g c =
    let w = c.args.caller.now in let did = c.fetch_add-found.ensures.2 (record_of w) c.clock_spot.ensures w.knows in
    let l = left w did refl refl (plus_none w.won) (plus_none w.back) in
    record { known = recorded l; slots = slots l; same_map = c.fetch_add-found.ensures.0 }

pub returns-clause-kept : goal.returns-clause-kept
returns-clause-kept g c = adds_keeps c.args.self.now c.args.caller.now _ c.requires _ (returns-clause-step g c) refl
