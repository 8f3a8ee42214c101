-- The step stores one more than the note in the tag's state, which the rule allows to the tag's holder. From then on the tag is nobody's:
-- the caller's mask loses its bit, and the slot stays in the table for whoever takes the tag.
use Rattle.std.specs.Prelude.{◌+◌}
use Rattle.tag_core.proofs.Uses.{ap, Layout, length-set, record_of, refl, without, ℕ, ◌∙◌}
use Rattle.tag_core.specs.Spacing.{state_at}
use Rattle.tag_core.specs.Plays.{posted}
use Rattle.tag_core.proofs.Stand.{state_in}
use Rattle.tag_core.proofs.AllowedStates.{post_allowed}
use Rattle.tag_core.proofs.Asking.{narrow, asked, left, after, recorded, slots, plus_none}
use Rattle.tag_core.proofs.Marking.{marked}
use Rattle.tag_core.proofs.Valued.{slot_held}
use Rattle.tag_core.proofs.Holdings.{adds_releases_one}
use Rattle.tag_core.proofs.map.Map.post.Goals as goal

pub store-requires : goal.store-requires
store-requires g c =
    let m = c.args.self.now in let w = c.args.caller.now in let k = w.shape.value in let own = c.requires.caller in
    let u : ℕ = c.args.tag in let note : ℕ = c.args.note in let has = c.requires.held in let val = slot_held w u has in
    let a = asked m w own w.seat.id w.seat.me (state_at k.layout u) c.state_spot-state.result (λ _. note + 1) (note + 1) 0
    (λ st me n. posted st me (note + 1)) (c.state_spot-state.ensures ∙ ap (λ (z : Layout). state_at z u) w.told.0)
    (state_in k.layout u has.0) (post_allowed g.row.R.Denot k (narrow m w own) w.seat.id w.seat.me (record_of w)
    w.knows w.carries u note val.0 has.0 has.1 val.1) in
    (own.0, a.0, a.1)

pub invariant_of-caller : goal.invariant_of-caller
invariant_of-caller g c =
    let w = c.args.caller.now in let u : ℕ = c.args.tag in let val = slot_held w u c.requires.held in
    let did = c.store.ensures.2 u c.args.note val.0 (record_of w) (c.state_spot-state.ensures
    ∙ ap (λ (z : Layout). state_at z u) w.told.0) refl val.1 w.knows in
    let mask = marked w u _ _ c.word_of-word.ensures.value c.place_of.ensures.value c.place_of.ensures.bound
    without c.index.result.now c.requires.held.0 c.index.ensures in
    let l = left w did mask refl (plus_none w.won) (plus_none w.back) in
    after l (length-set w.held.items _ _ ∙ w.wide) w.unspent w.few_back

pub returns-clause-step : goal.returns-clause-step
returns-clause-step g c =
    let w = c.args.caller.now in let u : ℕ = c.args.tag in let val = slot_held w u c.requires.held in
    let did = c.store.ensures.2 u c.args.note val.0 (record_of w) (c.state_spot-state.ensures
    ∙ ap (λ (z : Layout). state_at z u) w.told.0) refl val.1 w.knows in
    let mask = marked w u _ _ c.word_of-word.ensures.value c.place_of.ensures.value c.place_of.ensures.bound
    without c.index.result.now c.requires.held.0 c.index.ensures in
    let l = left w did mask refl (plus_none w.won) (plus_none w.back) in
    (val.0, val.1, record { known = recorded l; slots = slots l; same_map = c.store.ensures.0 })

pub returns-clause-released : goal.returns-clause-released
returns-clause-released g c =
    let m = c.args.self.now in let w = c.args.caller.now in let own = c.requires.caller in
    adds_releases_one m w _ own _ (returns-clause-step g c).2 c.args.tag c.requires.held.0 refl
