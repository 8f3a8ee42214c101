-- A load changes nothing. The record gains the step with the state that was found.
use Rattle.tag_core.proofs.Uses.{ap, Layout, record_of, ReadNote, refl, Shape, Stepped, subst, sym, note_read, ℕ, ◌∙◌}
use Rattle.std.specs.Prelude.{◌<◌}
use Rattle.tag_core.specs.Spacing.{state_at}
use Rattle.tag_core.proofs.Stand.{state_in}
use Rattle.tag_core.proofs.AllowedStates.{read_allowed}
use Rattle.tag_core.proofs.Asking.{narrow, asked, left, after, recorded, slots, plus_none}
use Rattle.tag_core.proofs.Holdings.{adds_keeps}
use Rattle.tag_core.proofs.Notes.{true_note}
use Rattle.tag_core.proofs.map.Map.read_note.Given as given
use Rattle.tag_core.proofs.map.Map.read_note.Goals.{After-load}
use Rattle.tag_core.proofs.map.Map.read_note.Goals as goal

pub load-requires : goal.load-requires
load-requires g c =
    let m = c.args.self.now in let w = c.args.caller.now in let k = w.shape.value in let own = c.requires.caller in
    let u : ℕ = c.args.tag in
    let lu : u < k.layout.depth = subst (λ (z : Shape). u < z.layout.depth) (sym own.1) c.requires.within in
    let a = asked m w own w.seat.id w.seat.me (state_at k.layout u) c.state_spot-state.result (λ n. n) 0 0 note_read
    (c.state_spot-state.ensures ∙ ap (λ (z : Layout). state_at z u) w.told.0)
    (state_in k.layout u lu) (read_allowed g.row.R.Denot k (narrow m w own) w.seat.id w.seat.me (record_of w) w.knows
    w.carries u lu) in (own.0, a.0, a.1)

-- what the load tells of the caller
did : (g : given.Over) (c : After-load g) → Stepped (ReadNote c.args.tag c.load.result) (record_of c.args.caller.now)
    c.args.caller.now.seat.me c.load.new.seat.me
did g c = let w = c.args.caller.now in
    c.load.ensures.2 c.args.tag (record_of w) (c.state_spot-state.ensures ∙ ap (λ (z : Layout). state_at z c.args.tag) w.told.0)
    w.knows (subst (λ (z : Shape). c.args.tag < z.layout.depth) (sym c.requires.caller.1) c.requires.within)

pub invariant_of-caller : goal.invariant_of-caller
invariant_of-caller g c = let w = c.args.caller.now in
    after (left w (did g c) refl refl (plus_none w.won) (plus_none w.back)) w.wide w.unspent w.few_back

pub returns-clause-step : goal.returns-clause-step
returns-clause-step g c =
    let w = c.args.caller.now in
    let made = subst (λ (n : ℕ). Stepped (ReadNote c.args.tag n) (record_of w) w.seat.me c.load.new.seat.me)
    (sym c.note_in.ensures) (did g c.before.before) in
    let l = left w made refl refl (plus_none w.won) (plus_none w.back) in
    record { known = recorded l; slots = slots l; same_map = c.load.ensures.0 }

pub returns-clause-kept : goal.returns-clause-kept
returns-clause-kept g c = adds_keeps c.args.self.now c.args.caller.now _ c.requires.caller _ (returns-clause-step g c) refl

pub returns-clause-note : goal.returns-clause-note
returns-clause-note g c =
    true_note c.args.self.now.shape c.args.caller.now.number c.args.tag c.note_in.result c.requires.within
