-- The step sets one bit of the word. If it was 0 the caller's mask gains it, and its seat the tag's slot; if it was 1
-- nothing of the caller changes but its record, which gains the step.
use Rattle.std.specs.Prelude.{◌%◌, ◌*◌, ◌+◌, ◌^◌, ◌≡◌, ◌≤◌}
use Rattle.tag_core.proofs.Uses.{ap, arith, bit_or, claimed, count_ones, IsWithin, length-set, one_shl, pow_below, record_of, Shape, subst, sym, ℕ, ◌∙◌}
use Rattle.tag_core.specs.Spacing.{word_at}
use Rattle.tag_core.proofs.Allowed.{claim_allowed}
use Rattle.tag_core.proofs.Asking.{found, narrow, in_words, asked, after, recorded, slots}
use Rattle.tag_core.proofs.Holdings.{adds_keeps}
use Rattle.tag_core.proofs.OneBit.{count_ones-pow, none_where_taken}
use Rattle.tag_core.proofs.OnePlace.{place_low, taken_by, clear_by, left_lost, left_won}
use Rattle.tag_core.proofs.OnePlace.{same_mask, won_tag}
use Rattle.tag_core.proofs.Stand.{word_in}
use Rattle.tag_core.proofs.map.Map.claim_one.Goals as goal

pub overflow_shl-bit : goal.overflow_shl-bit
overflow_shl-bit g c = place_low c.args.self.now c.args.word c.args.place c.requires.within.1

pub fetch_or-found-requires : goal.fetch_or-found-requires
fetch_or-found-requires g c =
    let m = c.args.self.now in let w = c.args.caller.now in let k = w.shape.value in let own = c.requires.caller in
    let R = g.row.R.Denot in let i : ℕ = c.args.word in let b : ℕ = c.args.place in
    let x : ℕ = 1 * 2 ^ b % 2 ^ 64 in
    let inside = in_words m w own i c.requires.within.0 in
    let bit = one_shl b 64 (place_low m i b c.requires.within.1) in
    let one : count_ones x ≡ 1 = ap count_ones bit ∙ count_ones-pow b in
    let life = w.unspent.1 in let told = w.told.1 in
    let a = asked m w own w.seat.id w.seat.me (word_at i) c.word_spot.result
    (λ n. bit_or n x) x 0 claimed c.word_spot.ensures (word_in k.layout i inside)
    (claim_allowed R k (narrow m w own) w.seat.id w.seat.me (record_of w) w.knows w.carries i x inside
    (subst (λ (z : Shape). IsWithin z.layout i x) (sym own.1) (rw bit (pow_below b _ c.requires.within.1))) (omega arith))
    in (own.0, a.0, a.1)

pub invariant_of-caller : goal.invariant_of-caller
invariant_of-caller g c =
    let w = c.args.caller.now in let b : ℕ = c.args.place in let n : ℕ = c.fetch_or-found.result in
    let low = place_low c.args.self.now c.args.word b c.requires.within.1 in
    let l = left_lost w c.fetch_or-found.new.seat.me c.args.word b n low (omega arith)
    (c.fetch_or-found.ensures.2 c.args.word (record_of w) c.word_spot.ensures w.knows).0
    (taken_by n b low c.if-found-bit-ne0.true) in
    after l w.wide w.unspent w.few_back

pub returns-then-found-bit-ne0-clause-lost : goal.returns-then-found-bit-ne0-clause-lost
returns-then-found-bit-ne0-clause-lost g c =
    let w = c.args.caller.now in let b : ℕ = c.args.place in let n : ℕ = c.fetch_or-found.result in
    let low = place_low c.args.self.now c.args.word b c.requires.within.1 in
    let did = c.fetch_or-found.ensures.2 c.args.word (record_of w) c.word_spot.ensures w.knows in
    let taken = taken_by n b low c.if-found-bit-ne0.true in
    let l = left_lost w c.fetch_or-found.new.seat.me c.args.word b n low (omega arith) did.0 taken in (
      taken,
      record {
        step = record { known = recorded l; slots = slots l; same_map = c.fetch_or-found.ensures.0 };
        fits = omega arith;
        held = found c.args.self.now w c.requires.caller c.args.word n 1 did.1;
      },
    )

pub returns-then-found-bit-ne0-clause-kept : goal.returns-then-found-bit-ne0-clause-kept
returns-then-found-bit-ne0-clause-kept g c =
    let lost = returns-then-found-bit-ne0-clause-lost g c in let w = c.args.caller.now in
    let none = none_where_taken c.fetch_or-found.result c.args.place (omega arith)
    (place_low c.args.self.now c.args.word c.args.place c.requires.within.1) lost.0 in
    adds_keeps c.args.self.now w _ c.requires.caller _ lost.1.step (same_mask w.held.items c.args.word _ none)

pub invariant_of-caller-2 : goal.invariant_of-caller-2
invariant_of-caller-2 g c =
    let w = c.args.caller.now in let b : ℕ = c.args.place in let n : ℕ = c.fetch_or-found.result in
    let low = place_low c.args.self.now c.args.word b c.requires.within.1 in
    let inside = in_words c.args.self.now w c.requires.caller c.args.word c.requires.within.0 in
    let l = left_won w c.fetch_or-found.new.seat.me c.args.word b n low (omega arith)
    (c.fetch_or-found.ensures.2 c.args.word (record_of w) c.word_spot.ensures w.knows).0
    (clear_by n b low c.if-found-bit-ne0.false) c.index.result.now inside c.index.ensures in
    let told = w.told.1 in let room = c.requires.room in let within : w.won + 1 ≤ w.life = omega arith in
    after l (length-set w.held.items _ _ ∙ w.wide) (within, w.unspent.1) w.few_back

pub returns-clause-won : goal.returns-clause-won
returns-clause-won g c =
    let w = c.args.caller.now in let b : ℕ = c.args.place in let n : ℕ = c.fetch_or-found.result in
    let low = place_low c.args.self.now c.args.word b c.requires.within.1 in
    let inside = in_words c.args.self.now w c.requires.caller c.args.word c.requires.within.0 in
    let did = c.fetch_or-found.ensures.2 c.args.word (record_of w) c.word_spot.ensures w.knows in
    let clear = clear_by n b low c.if-found-bit-ne0.false in
    let l = left_won w c.fetch_or-found.new.seat.me c.args.word b n low (omega arith) did.0 clear c.index.result.now
    inside c.index.ensures in (
      n,
      clear,
      record {
        step = record { known = recorded l; slots = slots l; same_map = c.fetch_or-found.ensures.0 };
        fits = omega arith;
        held = found c.args.self.now w c.requires.caller c.args.word n 1 did.1;
      },
    )

pub returns-clause-acquired : goal.returns-clause-acquired
returns-clause-acquired g c =
    let m = c.args.self.now in let w = c.args.caller.now in let won = returns-clause-won g c in
    won_tag m w _ c.requires.caller c.args.word c.args.place won.0 c.requires.within.1 won.1 won.2
