-- The swap lists the caller as it is to be. The record gains the step with the berth that was there.
use Rattle.std.specs.Prelude.{◌≡◌}
use Rattle.tag_core.proofs.Uses.{Allows, Bell, Berth, berth_of, berth_word, Enlist, enlisted, le_prop, Listed, none, record_of, refl, Shown, step, Stepped, subst, sym, HasTaken, List, Step, ℕ, ∥∥₁_elim}
use Rattle.tag_core.specs.Spacing.{berth_at}
use Rattle.tag_core.proofs.Stand.{berth_in}
use Rattle.tag_core.proofs.FewCallers.{few}
use Rattle.tag_core.proofs.AllowedWaits.{enlist_allowed}
use Rattle.tag_core.proofs.Asking.{narrow, asked, left, after, recorded, slots, plus_none}
use Rattle.tag_core.proofs.Holdings.{adds_keeps}
use Rattle.tag_core.proofs.Waiters.{found_agrees, taken_fits}
use Rattle.tag_core.proofs.map.Map.enlist.Given as given
use Rattle.tag_core.proofs.map.Map.enlist.Goals.{After-swap-found}
use Rattle.tag_core.proofs.map.Map.enlist.Goals as goal

-- a turn that it took fits its berth
pub to_word-word-requires : goal.to_word-word-requires
to_word-word-requires g c = let w = c.args.caller.now in let turn : ℕ = c.args.turn in record {
  fits = ∥∥₁_elim (w.shown (record_of w) w.knows) le_prop (λ z. taken_fits w.number w.shape.value.callers z.history
      z.lawful.finds turn
      (subst (λ (own : List (Step g.row.R.Denot)). HasTaken turn own) z.known.steps c.requires.taken));
}

pub swap-found-requires : goal.swap-found-requires
swap-found-requires g c =
    let m = c.args.self.now in let w = c.args.caller.now in let k = w.shape.value in let own = c.requires.caller in
    let new : ℕ = berth_word (Listed c.args.waiter c.args.turn) in
    let a = asked m w own w.seat.id w.seat.me (berth_at w.number) c.berth_spot.result (λ _. new) new 0 enlisted
    c.berth_spot.ensures (berth_in k.layout w.number (few m w own))
    (enlist_allowed g.row.R.Denot k (narrow m w own) w.seat.id w.seat.me (record_of w) w.knows w.carries (few m w own)
    c.args.waiter c.args.turn c.requires.first c.requires.taken) in (
      own.0,
      a.0,
      subst (λ (word : ℕ). Allows (Shown m.table.shared.key) m.table.shared.table_id.slots w.seat.id w.seat.me
          c.berth_spot.result (λ _. word)
          (enlisted (step m.table.shared.table_id.slots c.berth_spot.result word 0 none) w.seat.me))
          (sym c.to_word-word.ensures.word) a.1,
    )

-- what the step tells
made : (g : given.Over) (c : After-swap-found g) (b : Berth) → b ≡ berth_of c.swap-found.result
    → Stepped (Bell (Enlist c.args.caller.now.number c.args.waiter c.args.turn b)) (record_of c.args.caller.now)
    c.args.caller.now.seat.me c.swap-found.new.seat.me
made g c b is = let w = c.args.caller.now in
    subst (λ (b : Berth). Stepped (Bell (Enlist w.number c.args.waiter c.args.turn b)) (record_of w) w.seat.me
    c.swap-found.new.seat.me) (sym is) (c.swap-found.ensures.2 c.args.waiter c.args.turn (record_of w) c.berth_spot.ensures
    c.to_word-word.ensures.word w.knows)

pub invariant_of-caller : goal.invariant_of-caller
invariant_of-caller g c = let w = c.args.caller.now in
    after (left w (made g c _ refl) refl refl (plus_none w.won) (plus_none w.back)) w.wide w.unspent w.few_back

pub returns-clause-step : goal.returns-clause-step
returns-clause-step g c = let w = c.args.caller.now in
    let l = left w (made g c.before.before _ c.of_word.ensures.berth) refl refl (plus_none w.won) (plus_none w.back) in
    record { known = recorded l; slots = slots l; same_map = c.swap-found.ensures.0 }

pub returns-clause-own : goal.returns-clause-own
returns-clause-own g c = let w = c.args.caller.now in let z = (made g c.before.before _ c.of_word.ensures.berth).shown in
    found_agrees w.number w.shape.value.callers z.history z.lawful.finds _ (record_of w).steps (sym z.known.steps)
    c.of_word.result (λ x finds. finds)

pub returns-clause-kept : goal.returns-clause-kept
returns-clause-kept g c = adds_keeps c.args.self.now c.args.caller.now _ c.requires.caller _ (returns-clause-step g c) refl
