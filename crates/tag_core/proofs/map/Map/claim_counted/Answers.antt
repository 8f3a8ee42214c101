-- The step sets the mask's bits in the word and wins those that it found 0. There is room for all of them,
-- the caller's mask gains what was won, and its seat the slots of these tags.
use Rattle.std.specs.Prelude.{◌+◌, ◌≤◌}
use Rattle.tag_core.proofs.Uses.{ap, arith, bit_or, claimed, count_ones, IsWithin, length-set, record_of, refl, Shape, slice_set, subst, sym, without, ℕ, ◌∙◌}
use Rattle.tag_core.specs.Spacing.{word_at}
use Rattle.tag_core.proofs.Masks.{ones_minus, minus_le}
use Rattle.tag_core.proofs.Stand.{word_in}
use Rattle.tag_core.proofs.Allowed.{claim_allowed}
use Rattle.tag_core.proofs.Asking.{found, narrow, in_words, asked, left, after, recorded, slots, plus_none}
use Rattle.tag_core.proofs.Marking.{mask_read}
use Rattle.tag_core.proofs.Holdings.{adds_acquires, not_found}
use Rattle.tag_core.proofs.map.Map.claim_counted.Goals as goal

pub fetch_or-found-requires : goal.fetch_or-found-requires
fetch_or-found-requires g c =
    let m = c.args.self.now in let w = c.args.caller.now in let k = w.shape.value in let own = c.requires.caller in
    let R = g.row.R.Denot in let i : ℕ = c.args.word in let x : ℕ = c.args.mask in
    let inside = in_words m w own i c.requires.within.0 in
    let roomy : w.won + count_ones x ≤ k.life = rw c.requires.asked at c.requires.room in let life = w.unspent.1 in
    let told = w.told.1 in
    let a = asked m w own w.seat.id w.seat.me (word_at i) c.word_spot.result
    (λ n. bit_or n x) x 0 claimed c.word_spot.ensures (word_in k.layout i inside)
    (claim_allowed R k (narrow m w own) w.seat.id w.seat.me (record_of w) w.knows w.carries i x inside
    (subst (λ (z : Shape). IsWithin z.layout i x) (sym own.1) c.requires.within.1) (omega arith)) in (own.0, a.0, a.1)

pub invariant_of-caller : goal.invariant_of-caller
invariant_of-caller g c =
    let w = c.args.caller.now in let i : ℕ = c.args.word in let won = without c.args.mask c.fetch_or-found.result in
    let inside = in_words c.args.self.now w c.requires.caller i c.requires.within.0 in
    let mask = ap (λ (z : ℕ). slice_set w.held.items i (bit_or z won))
    (sym (mask_read w i c.index.result.now inside c.index.ensures)) in
    let counted = ap (λ (z : ℕ). w.won + z) (sym c.count_part.ensures) in
    let l = left w (c.fetch_or-found.ensures.2 i (record_of w) c.word_spot.ensures w.knows).0 mask refl counted
    (plus_none w.back) in
    let fewer : count_ones won ≤ count_ones c.args.mask = ones_minus c.args.mask c.fetch_or-found.result in
    let roomy : w.won + count_ones c.args.mask ≤ w.shape.value.life = rw c.requires.asked at c.requires.room in
    let told = w.told.1 in let part = c.count_part.ensures in
    let within : w.won + c.count_part.result ≤ w.life = omega arith in
    after l (length-set w.held.items _ _ ∙ w.wide) (within, w.unspent.1) w.few_back

pub returns-clause-step : goal.returns-clause-step
returns-clause-step g c =
    let w = c.args.caller.now in let i : ℕ = c.args.word in let won = without c.args.mask c.fetch_or-found.result in
    let inside = in_words c.args.self.now w c.requires.caller i c.requires.within.0 in
    let mask = ap (λ (z : ℕ). slice_set w.held.items i (bit_or z won))
    (sym (mask_read w i c.index.result.now inside c.index.ensures)) in
    let counted = ap (λ (z : ℕ). w.won + z) (sym c.count_part.ensures) in
    let l = left w (c.fetch_or-found.ensures.2 i (record_of w) c.word_spot.ensures w.knows).0 mask refl counted
    (plus_none w.back) in record { known = recorded l; slots = slots l; same_map = c.fetch_or-found.ensures.0 }

pub returns-clause-held : goal.returns-clause-held
returns-clause-held g c = let w = c.args.caller.now in
    found c.args.self.now w c.requires.caller c.args.word c.fetch_or-found.result 1
    (c.fetch_or-found.ensures.2 c.args.word (record_of w) c.word_spot.ensures w.knows).1

pub returns-clause-acquired : goal.returns-clause-acquired
returns-clause-acquired g c =
    let m = c.args.self.now in let w = c.args.caller.now in let own = c.requires.caller in
    let i : ℕ = c.args.word in let x : ℕ = c.args.mask in let f : ℕ = c.fetch_or-found.result in
    let most = minus_le x f in
    adds_acquires m w _ own _ (returns-clause-step g c) i (without x f) c.requires.within.0 (omega arith)
    (λ t named h. not_found m.shape m.small.1 i x f t (omega arith) named (λ e. returns-clause-held g c t h e)) refl
