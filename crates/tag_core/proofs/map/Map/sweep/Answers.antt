-- The swap moves the cleared set into the caller's sweep, and a second step takes what it found out of the word. Where it
-- found nothing, the sweep stays empty and there is no second step.
use Rattle.std.specs.Prelude.{◌%◌, ◌+◌, ◌-◌, ◌<◌, ◌^◌, ◌∷◌, ◌≡◌}
use Rattle.tag_core.proofs.Uses.{Allows, ap, arith, bit_or, Caller, get_or, Me, none, own_view, Record, record_after, record_of, refl, replicate, Shown, Spill, spilled, step, steps_of, subst, Swap, swapped, sym, View, Word, words, ℕ, ◌∙◌}
use Rattle.tag_core.specs.Spacing.{word_at, aside_at}
use Rattle.tag_core.proofs.Stand.{word_in, aside_in}
use Rattle.tag_core.proofs.Sweepings.{nothing, clean, mask_of}
use Rattle.tag_core.proofs.Allowed.{swap_allowed, spill_allowed}
use Rattle.tag_core.proofs.Asking.{narrow, in_words, asked, left, after, recorded, slots, plus_none, shows}
use Rattle.tag_core.proofs.Holdings.{adds_keeps, adds_two_keeps}
use Rattle.tag_core.proofs.map.Map.sweep.Goals as goal

pub swap-mask-requires : goal.swap-mask-requires
swap-mask-requires g c =
    let m = c.args.self.now in let w = c.args.caller.now in let k = w.shape.value in let own = c.requires.caller in
    let R = g.row.R.Denot in let i : ℕ = c.args.word in let inside = in_words m w own i c.requires.within in
    let a = asked m w own w.seat.id w.seat.me (aside_at i) c.aside_spot.result (λ _. 0) 0 0 swapped c.aside_spot.ensures
    (aside_in k.layout i inside)
    (swap_allowed R k (narrow m w own) w.seat.id w.seat.me (record_of w) w.knows w.carries i inside) in
    (own.0, a.0, a.1)

pub invariant_of-caller : goal.invariant_of-caller
invariant_of-caller g c =
    let w = c.args.caller.now in let i : ℕ = c.args.word in
    let l = left w (c.swap-mask.ensures.2 i (record_of w) c.aside_spot.ensures w.knows) refl
    (nothing (words w.shape.value.layout) i c.swap-mask.result c.if-mask-eq0.true) (plus_none w.won)
    (plus_none w.back) in
    after l w.wide w.unspent w.few_back

pub returns-then-mask-eq0-clause-none : goal.returns-then-mask-eq0-clause-none
returns-then-mask-eq0-clause-none g c =
    let w = c.args.caller.now in let i : ℕ = c.args.word in
    let l = left w (c.swap-mask.ensures.2 i (record_of w) c.aside_spot.ensures w.knows) refl
    (nothing (words w.shape.value.layout) i c.swap-mask.result c.if-mask-eq0.true) (plus_none w.won)
    (plus_none w.back) in
    λ t. record {
      known = recorded l ∙ ap (λ (z : ℕ). record_after (Word (Swap i z)) (record_of w)) c.if-mask-eq0.true;
      slots = slots l;
      same_map = c.swap-mask.ensures.0;
    }

pub fetch_sub-requires : goal.fetch_sub-requires
fetch_sub-requires g c =
    let m = c.args.self.now in let w = c.args.caller.now in let k = w.shape.value in let own = c.requires.caller in
    let R = g.row.R.Denot in let i : ℕ = c.args.word in let inside = in_words m w own i c.requires.within in
    let f : ℕ = c.swap-mask.result in
    let did = c.swap-mask.ensures.2 i (record_of w) c.aside_spot.ensures w.knows in
    let r1 : Record R = record_after (Word (Swap i f)) (record_of w) in
    let mask : get_or r1.swept i 0 ≡ f = mask_of (words k.layout) i f inside in let me = c.swap-mask.new.seat.me in
    let a = asked m w own c.swap-mask.new.seat.id me (word_at i) c.word_spot.result (λ n. (n + (2 ^ 64 - f)) % 2 ^ 64)
    f 0 spilled c.word_spot.ensures (word_in k.layout i inside)
    (subst (λ (z : ℕ). Allows (Shown k) k.layout.depth c.swap-mask.new.seat.id me (word_at i)
    (λ n. (n + (2 ^ 64 - z)) % 2 ^ 64) (spilled (step k.layout.depth (word_at i) z 0 none) me)) mask
    (spill_allowed R k (narrow m w own) c.swap-mask.new.seat.id me r1 did.view did.carries i inside
    (subst (λ (z : ℕ). z < 2 ^ 64) (sym mask) c.swap-mask.type_inv))) in (c.swap-mask.ensures.0 ∙ own.0, a.0, a.1)

-- the record after both steps
both : {R : Type 0} (w : Caller R) (i f n : ℕ) (me' : Me R (View R)) → i < words w.shape.value.layout
    → (did : me'.0 ≡ own_view
    (record_after (Word (Spill i (get_or (record_after (Word (Swap i f)) (record_of w)).swept i 0) n))
    (record_after (Word (Swap i f)) (record_of w))))
    → record {
      shape = w.shape.value;
      number = w.number;
      held = w.held.items;
      swept = replicate
          (words w.shape.value.layout) 0;
      won = w.won;
      back = w.back;
      steps = steps_of me'.0;
    }
    ≡ record_after (Word (Spill i f n)) (record_after (Word (Swap i f)) (record_of w))
both w i f n me' inside did j = let mask = mask_of (words w.shape.value.layout) i f inside in record {
  shape = w.shape.value;
  number = w.number;
  held = w.held.items;
  swept = sym (clean (words w.shape.value.layout) i (bit_or (get_or (replicate (words w.shape.value.layout) 0) i 0) f))
      j;
  won = twice w.won j;
  back = twice w.back j;
  steps = (ap steps_of did ∙ (λ z. Word (Spill i (mask z) n) ∷ Word (Swap i f) ∷ steps_of w.seat.me.0)) j;
}
  where
    twice : (n : ℕ) → n ≡ n + 0 + 0
    twice n = omega arith

pub invariant_of-caller-2 : goal.invariant_of-caller-2
invariant_of-caller-2 g c =
    let m = c.args.self.now in let w = c.args.caller.now in let k = w.shape.value in let own = c.requires.caller in
    let R = g.row.R.Denot in let i : ℕ = c.args.word in let inside = in_words m w own i c.requires.within in
    let f : ℕ = c.swap-mask.result in
    let did = c.swap-mask.ensures.2 i (record_of w) c.aside_spot.ensures w.knows in
    let r1 : Record R = record_after (Word (Swap i f)) (record_of w) in
    let done = c.fetch_sub.ensures.2 i r1 c.word_spot.ensures did.view in let me = c.fetch_sub.new.seat.me in
    let mask = mask_of (words k.layout) i f inside in record {
      told = w.told;
      knows = done.view ∙ (λ j. own_view (record_after (Word (Spill i (mask j) c.fetch_sub.result)) r1))
          ∙ ap own_view (sym (both w i f c.fetch_sub.result me inside done.view));
      shown = shows (Word (Spill i (get_or r1.swept i 0) c.fetch_sub.result)) (r1) c.swap-mask.new.seat.me me done;
      carries = done.carries;
      wide = w.wide;
      unspent = w.unspent;
      few_back = w.few_back;
    }

pub returns-clause-some : goal.returns-clause-some
returns-clause-some g c =
    let m = c.args.self.now in let w = c.args.caller.now in let k = w.shape.value in let own = c.requires.caller in
    let R = g.row.R.Denot in let i : ℕ = c.args.word in let inside = in_words m w own i c.requires.within in
    let f : ℕ = c.swap-mask.result in
    let did = c.swap-mask.ensures.2 i (record_of w) c.aside_spot.ensures w.knows in
    let r1 : Record R = record_after (Word (Swap i f)) (record_of w) in
    let done = c.fetch_sub.ensures.2 i r1 c.word_spot.ensures did.view in let me = c.fetch_sub.new.seat.me in
    λ _. (
      c.fetch_sub.result,
      record {
        known = both w i f c.fetch_sub.result me inside done.view;
        slots = λ t was is. done.values t was.0 was.1 was.1 ∙ did.values t was.0 was.1 was.1;
        same_map = c.fetch_sub.ensures.0 ∙ c.swap-mask.ensures.0;
      },
    )

pub returns-then-mask-eq0-clause-kept : goal.returns-then-mask-eq0-clause-kept
returns-then-mask-eq0-clause-kept g c =
    adds_keeps c.args.self.now c.args.caller.now _ c.requires.caller _ (returns-then-mask-eq0-clause-none g c refl) refl

pub returns-clause-kept : goal.returns-clause-kept
returns-clause-kept g c = let steps = returns-clause-some g c c.if-mask-eq0.false in
    adds_two_keeps c.args.self.now c.args.caller.now _ c.requires.caller _ _ steps.1 refl
