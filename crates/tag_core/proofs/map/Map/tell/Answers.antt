-- An exchange tells the caller if its berth is as expected, and otherwise changes nothing.
use Rattle.std.specs.Prelude.{◌≡◌}
use Rattle.tag_core.proofs.Uses.{Allows, ap, berth_of, berth_word, either, eqb, Listed, newly_told, none, record_of, refl, Shown, step, subst, sym, Told, ℕ, ◌∙◌}
use Rattle.std.proofs.lemmas.Nat.{one_shl}
use Rattle.tag_core.specs.Plays as plays
use Rattle.tag_core.specs.Spacing.{berth_at}
use Rattle.tag_core.proofs.Berths.{listed-word, newly-hit, newly-miss}
use Rattle.tag_core.proofs.Stand.{berth_in}
use Rattle.tag_core.proofs.FewCallers.{few}
use Rattle.tag_core.proofs.AllowedWaits.{tell_allowed}
use Rattle.tag_core.proofs.Asking.{narrow, asked, left, after, recorded, slots, plus_none}
use Rattle.tag_core.proofs.Holdings.{adds_keeps}
use Rattle.tag_core.proofs.map.Map.tell.Goals as goal

pub compare_exchange-found-requires : goal.compare_exchange-found-requires
compare_exchange-found-requires g c =
    let m = c.args.self.now in let w = c.args.caller.now in let k = w.shape.value in let own = c.requires.caller in
    let d : ℕ = c.args.whom in let listed : ℕ = berth_word (Listed c.args.waiter c.args.turn) in
    let said : ℕ = berth_word (Told c.args.waiter c.args.turn) in
    let a = asked m w own w.seat.id w.seat.me (berth_at d) c.berth_spot.result (λ n. either (eqb n listed) said n) listed
    said plays.told c.berth_spot.ensures (berth_in k.layout d c.requires.within)
    (tell_allowed g.row.R.Denot k (narrow m w own) w.seat.id w.seat.me (record_of w) w.knows w.carries (few m w own)
    c.args.waiter c.args.turn d c.requires.within) in (
      own.0,
      a.0,
      subst (λ (x : ℕ × ℕ). Allows (Shown m.table.shared.key) m.table.shared.table_id.slots w.seat.id w.seat.me
          c.berth_spot.result (λ n. either (eqb n x.0) x.1 n)
          (plays.told (step m.table.shared.table_id.slots c.berth_spot.result x.0 x.1 none) w.seat.me))
          (λ j. (sym c.to_word-listed.ensures.word j, sym c.to_word-told.ensures.word j)) a.1,
    )

pub invariant_of-caller : goal.invariant_of-caller
invariant_of-caller g c = let w = c.args.caller.now in
    let did = c.compare_exchange-found.ensures.2 c.args.whom c.args.waiter c.args.turn (record_of w) c.berth_spot.ensures
    c.to_word-listed.ensures.word w.knows in
    after (left w did refl refl (plus_none w.won) (plus_none w.back)) w.wide w.unspent w.few_back

pub returns-then-found-listed-clause-step : goal.returns-then-found-listed-clause-step
returns-then-found-listed-clause-step g c = let w = c.args.caller.now in let found : ℕ = c.compare_exchange-found.result in
    let did = c.compare_exchange-found.ensures.2 c.args.whom c.args.waiter c.args.turn (record_of w) c.berth_spot.ensures
    c.to_word-listed.ensures.word w.knows in
    let l = left w did refl refl (plus_none w.won) (plus_none w.back) in (
      berth_of found,
      record { known = recorded l; slots = slots l; same_map = c.compare_exchange-found.ensures.0 },
      c.none.ensures ∙ sym (newly-miss c.args.whom c.args.waiter c.args.turn (berth_of found) (λ is. c.if-found-listed.true
          (listed-word found c.args.waiter c.args.turn is ∙ sym c.to_word-listed.ensures.word))),
    )

pub returns-then-found-listed-clause-kept : goal.returns-then-found-listed-clause-kept
returns-then-found-listed-clause-kept g c = adds_keeps c.args.self.now c.args.caller.now _ c.requires.caller _
    (returns-then-found-listed-clause-step g c).1 refl

pub returns-clause-step : goal.returns-clause-step
returns-clause-step g c = let w = c.args.caller.now in let found : ℕ = c.compare_exchange-found.result in
    let did = c.compare_exchange-found.ensures.2 c.args.whom c.args.waiter c.args.turn (record_of w) c.berth_spot.ensures
    c.to_word-listed.ensures.word w.knows in
    let is : berth_of found ≡ Listed c.args.waiter c.args.turn = ap berth_of c.if-found-listed.false
    ∙ c.to_word-listed.ensures.back in
    let l = left w did refl refl (plus_none w.won) (plus_none w.back) in (
      berth_of found,
      record { known = recorded l; slots = slots l; same_map = c.compare_exchange-found.ensures.0 },
      one_shl c.args.whom 64 c.requires.within ∙ sym (newly-hit c.args.whom c.args.waiter c.args.turn)
          ∙ sym (ap (newly_told c.args.whom c.args.waiter c.args.turn) is),
    )

pub returns-clause-kept : goal.returns-clause-kept
returns-clause-kept g c = adds_keeps c.args.self.now c.args.caller.now _ c.requires.caller _ (returns-clause-step g c).1 refl
