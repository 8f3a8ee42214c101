-- A swap that finds another word than 0 makes the caller the holder: its mask gains the tag's bit and its seat the slot. One
-- that finds 0 changes nothing and stands in the record as a look.
use Rattle.std.specs.Prelude.{◌<◌}
use Rattle.tag_core.proofs.Uses.{ap, bit_or, Layout, length-set, record_of, refl, rules, Shape, subst, sym, took, ℕ, ◌∙◌}
use Rattle.tag_core.specs.Spacing.{state_at}
use Rattle.tag_core.proofs.Stand.{state_in}
use Rattle.tag_core.proofs.AllowedStates.{take_allowed}
use Rattle.tag_core.proofs.Asking.{narrow, asked, left, after, recorded, slots, plus_none}
use Rattle.tag_core.proofs.Marking.{marked}
use Rattle.tag_core.proofs.Holdings.{adds_keeps, adds_acquires_one}
use Rattle.tag_core.proofs.map.Map.take.Goals as goal

pub swap-found-requires : goal.swap-found-requires
swap-found-requires g c =
    let m = c.args.self.now in let w = c.args.caller.now in let k = w.shape.value in let own = c.requires.caller in
    let u : ℕ = c.args.tag in
    let lu : u < k.layout.depth = subst (λ (z : Shape). u < z.layout.depth) (sym own.1) c.requires.within in
    let a = asked m w own w.seat.id w.seat.me (state_at k.layout u) c.state_spot-state.result
    (λ _. 0) 0 0 took (c.state_spot-state.ensures ∙ ap (λ (z : Layout). state_at z u) w.told.0)
    (state_in k.layout u lu) (take_allowed g.row.R.Denot k (narrow m w own) w.seat.id w.seat.me (record_of w) w.knows
    w.carries u lu) in (own.0, a.0, a.1)

pub invariant_of-caller : goal.invariant_of-caller
invariant_of-caller g c =
    let w = c.args.caller.now in let u : ℕ = c.args.tag in
    let did = c.swap-found.ensures.2 u (record_of w) (c.state_spot-state.ensures
    ∙ ap (λ (z : Layout). state_at z u) w.told.0) w.knows in
    let l = left w (did.1 c.if-found-eq0.true) refl refl (plus_none w.won) (plus_none w.back) in
    after l w.wide w.unspent w.few_back

pub returns-then-found-eq0-clause-missed : goal.returns-then-found-eq0-clause-missed
returns-then-found-eq0-clause-missed g c =
    let w = c.args.caller.now in let u : ℕ = c.args.tag in
    let did = c.swap-found.ensures.2 u (record_of w) (c.state_spot-state.ensures
    ∙ ap (λ (z : Layout). state_at z u) w.told.0) w.knows in
    let l = left w (did.1 c.if-found-eq0.true) refl refl (plus_none w.won) (plus_none w.back) in
    λ _. record { known = recorded l; slots = slots l; same_map = c.swap-found.ensures.0 }

pub returns-then-found-eq0-clause-kept : goal.returns-then-found-eq0-clause-kept
returns-then-found-eq0-clause-kept g c = λ missed.
    adds_keeps c.args.self.now c.args.caller.now _ c.requires.caller _
    (returns-then-found-eq0-clause-missed g c missed) refl

pub invariant_of-caller-2 : goal.invariant_of-caller-2
invariant_of-caller-2 g c =
    let w = c.args.caller.now in let u : ℕ = c.args.tag in
    let did = c.swap-found.ensures.2 u (record_of w) (c.state_spot-state.ensures
    ∙ ap (λ (z : Layout). state_at z u) w.told.0) w.knows in
    let mask = marked w u _ _ c.word_of-word.ensures.value c.place_of.ensures.value c.place_of.ensures.bound bit_or
    c.index.result.now
    (subst (λ (z : Shape). u < z.layout.depth) (sym c.requires.caller.1) c.requires.within) c.index.ensures in
    let l = left w (did.0 (search rules)).2 mask refl (plus_none w.won) (plus_none w.back) in
    after l (length-set w.held.items _ _ ∙ w.wide) w.unspent w.few_back

pub returns-clause-won : goal.returns-clause-won
returns-clause-won g c =
    let w = c.args.caller.now in let u : ℕ = c.args.tag in
    let did = c.swap-found.ensures.2 u (record_of w) (c.state_spot-state.ensures
    ∙ ap (λ (z : Layout). state_at z u) w.told.0) w.knows in
    let got = did.0 (search rules) in
    let mask = marked w u _ _ c.word_of-word.ensures.value c.place_of.ensures.value c.place_of.ensures.bound bit_or
    c.index.result.now
    (subst (λ (z : Shape). u < z.layout.depth) (sym c.requires.caller.1) c.requires.within) c.index.ensures in
    let l = left w got.2 mask refl (plus_none w.won) (plus_none w.back) in
    λ _. (got.0, got.1, record { known = recorded l; slots = slots l; same_map = c.swap-found.ensures.0 })

pub returns-clause-acquired : goal.returns-clause-acquired
returns-clause-acquired g c =
    let m = c.args.self.now in let w = c.args.caller.now in let k = w.shape.value in let own = c.requires.caller in
    let u : ℕ = c.args.tag in
    let did = c.swap-found.ensures.2 u (record_of w) (c.state_spot-state.ensures
    ∙ ap (λ (z : Layout). state_at z u) w.told.0) w.knows in
    let got = did.0 (search rules) in
    let lu : u < k.layout.depth = subst (λ (z : Shape). u < z.layout.depth) (sym own.1) c.requires.within in
    λ true. adds_acquires_one m w _ own _ (returns-clause-won g c true).2 u lu (λ h. got.3 h.1) refl
