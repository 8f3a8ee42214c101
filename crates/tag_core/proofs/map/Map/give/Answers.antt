-- The step takes the mask out of the word, which the rule allows since the caller holds these tags. Its mask loses
-- them, and their slots stay behind in the table.
use Rattle.std.specs.Prelude.{◌%◌, ◌+◌, ◌-◌, ◌<◌, ◌^◌, ◌≡◌}
use Rattle.tag_core.proofs.Uses.{ap, gave, IsWithin, length-set, record_of, refl, Shape, slice_set, subst, sym, without, ℕ, ◌∙◌}
use Rattle.tag_core.specs.Spacing.{word_at}
use Rattle.tag_core.proofs.Stand.{word_in}
use Rattle.tag_core.proofs.Picks.{among, one_among}
use Rattle.tag_core.proofs.Allowed.{give_allowed}
use Rattle.tag_core.proofs.Asking.{narrow, in_words, asked, left, after, recorded, few, slots, bounded, plus_none}
use Rattle.tag_core.proofs.Marking.{mask_read}
use Rattle.tag_core.proofs.Holdings.{adds_releases}
use Rattle.tag_core.proofs.map.Map.give.Goals as goal

pub fetch_sub-requires : goal.fetch_sub-requires
fetch_sub-requires g c =
    let m = c.args.self.now in let w = c.args.caller.now in let k = w.shape.value in let own = c.requires.caller in
    let R = g.row.R.Denot in let i : ℕ = c.args.word in let x : ℕ = c.args.mask in
    let inside = in_words m w own i c.requires.within.0 in
    let same : m.shape ≡ k = sym own.1 in
    let a = asked m w own w.seat.id w.seat.me (word_at i) c.word_spot.result (λ n. (n + (2 ^ 64 - x)) % 2 ^ 64)
    x 0 gave c.word_spot.ensures (word_in k.layout i inside)
    (give_allowed R k (narrow m w own) w.seat.id w.seat.me (record_of w) w.knows w.carries i x inside
    (subst (λ (z : Shape). IsWithin z.layout i x) same c.requires.within.1) c.ranges.mask.fits
    (λ t l a. (c.requires.held t (subst (λ (z : Shape). t < z.layout.depth) own.1 l)
    (one_among m.shape.layout i x t (subst (λ (z : Shape). among z.layout.shift i x t ≡ 1) own.1 a))).1)) in
    (own.0, a.0, a.1)

pub invariant_of-caller : goal.invariant_of-caller
invariant_of-caller g c =
    let w = c.args.caller.now in let i : ℕ = c.args.word in let x : ℕ = c.args.mask in
    let inside = in_words c.args.self.now w c.requires.caller i c.requires.within.0 in
    let mask = ap (λ (z : ℕ). slice_set w.held.items i (without z x))
    (sym (mask_read w i c.index.result.now inside c.index.ensures)) in
    let l = left w (c.fetch_sub.ensures.2 i (record_of w) c.word_spot.ensures w.knows) mask
    refl (plus_none w.won) refl in
    after l (length-set w.held.items _ _ ∙ w.wide) w.unspent (bounded c.args.self.now w c.requires.caller _ (few l))

pub returns-clause-step : goal.returns-clause-step
returns-clause-step g c =
    let w = c.args.caller.now in let i : ℕ = c.args.word in let x : ℕ = c.args.mask in
    let inside = in_words c.args.self.now w c.requires.caller i c.requires.within.0 in
    let mask = ap (λ (z : ℕ). slice_set w.held.items i (without z x))
    (sym (mask_read w i c.index.result.now inside c.index.ensures)) in
    let l = left w (c.fetch_sub.ensures.2 i (record_of w) c.word_spot.ensures w.knows) mask
    refl (plus_none w.won) refl in
    (c.fetch_sub.result, record { known = recorded l; slots = slots l; same_map = c.fetch_sub.ensures.0 })

pub returns-clause-released : goal.returns-clause-released
returns-clause-released g c =
    let m = c.args.self.now in let w = c.args.caller.now in let own = c.requires.caller in
    adds_releases m w _ own _ (returns-clause-step g c).1 c.args.word c.args.mask c.requires.within.0
    c.requires.within.1 refl
