-- The swap moves the cleared set into the caller's sweep, of which the least tag comes to what it holds; a second step
-- takes the others, if there are any, out of the word.
use Rattle.std.specs.Prelude.{◌%◌, ◌*◌, ◌+◌, ◌-◌, ◌<◌, ◌^◌, ◌≡◌, ◌≢◌}
use Rattle.tag_core.proofs.Uses.{Allows, ap, arith, bit_or, Caller, get_or, IsWithin, joined, kept_least, least_bit, List, none, one_shl, record_after, record_of, refl, Shape, Shown, slice_set, Spill, spilled, step, subst, sym, tag_bit, trailing_zeros, w64, without, Word, words, ℕ}
use Rattle.tag_core.proofs.Uses.{◌∙◌}
use Rattle.tag_core.specs.Spacing.{word_at, aside_at}
use Rattle.tag_core.proofs.Stand.{word_in, aside_in}
use Rattle.tag_core.proofs.Sweepings.{nothing}
use Rattle.tag_core.proofs.Allowed.{spill_allowed}
use Rattle.tag_core.proofs.Asking.{narrow, in_words, asked, left, after, recorded, slots, plus_none}
use Rattle.tag_core.proofs.Marking.{mask_read}
use Rattle.tag_core.proofs.Masks.{minus_le}
use Rattle.tag_core.proofs.Holdings.{adds_keeps}
use Rattle.tag_core.proofs.Keepings.{keep_allowed, least_in, least_small}
use Rattle.tag_core.proofs.KeptRecords.{after_keep, rest_left, swept_within, kept_alone, kept_one, promised_alone, promised_one, place_below, kept_acquires}
use Rattle.tag_core.proofs.map.Map.keep_least.Goals as goal

pub swap-mask-requires : goal.swap-mask-requires
swap-mask-requires g c =
    let m = c.args.self.now in let w = c.args.caller.now in let k = w.shape.value in let own = c.requires.caller in
    let R = g.row.R.Denot in let i : ℕ = c.args.word in let inside = in_words m w own i c.requires.within in
    let room = c.requires.room in let life = w.unspent.1 in let told = w.told.1 in
    let a = asked m w own w.seat.id w.seat.me (aside_at i) c.aside_spot.result (λ _. 0) 0 0 kept_least
    c.aside_spot.ensures (aside_in k.layout i inside)
    (keep_allowed R k (narrow m w own) w.seat.id w.seat.me (record_of w) w.knows w.carries i inside (omega arith)) in
    (own.0, a.0, a.1)

pub invariant_of-caller : goal.invariant_of-caller
invariant_of-caller g c =
    let w = c.args.caller.now in let i : ℕ = c.args.word in
    let told = c.swap-mask.ensures.2 i (record_of w) c.aside_spot.ensures w.knows in
    let l = left w (told.1 c.if-mask-eq0.true) refl (nothing (words w.shape.value.layout) i 0 refl) (plus_none w.won)
    (plus_none w.back) in
    after l w.wide w.unspent w.few_back

pub returns-then-mask-eq0-clause-none : goal.returns-then-mask-eq0-clause-none
returns-then-mask-eq0-clause-none g c =
    let w = c.args.caller.now in let i : ℕ = c.args.word in
    let told = c.swap-mask.ensures.2 i (record_of w) c.aside_spot.ensures w.knows in
    let l = left w (told.1 c.if-mask-eq0.true) refl (nothing (words w.shape.value.layout) i 0 refl) (plus_none w.won)
    (plus_none w.back) in
    record { known = recorded l; slots = slots l; same_map = c.swap-mask.ensures.0 }

pub returns-then-mask-eq0-clause-unmoved : goal.returns-then-mask-eq0-clause-unmoved
returns-then-mask-eq0-clause-unmoved g c =
    adds_keeps c.args.self.now c.args.caller.now _ c.requires.caller _ (returns-then-mask-eq0-clause-none g c) refl

-- the lowest bit as the code makes it
bit_is : (f : ℕ) → f ≢ 0 → f < 2 ^ 64 → 1 * 2 ^ trailing_zeros w64 f % 2 ^ 64 ≡ least_bit f
bit_is f some_aside fits = one_shl (trailing_zeros w64 f) 64 (least_small f some_aside fits)

-- the held set with the tag, as the code makes it
held_is : {R : Type 0} (w : Caller R) (i f was : ℕ) → f ≢ 0 → f < 2 ^ 64 → i < words w.shape.value.layout
    → was ≡ get_or w.held.items i was
    → joined w.held.items i (least_bit f)
    ≡ slice_set w.held.items i (bit_or was (1 * 2 ^ trailing_zeros w64 f % 2 ^ 64))
held_is w i f was some_aside fits inside found j =
    slice_set w.held.items i (bit_or (sym (mask_read w i was inside found) j) (sym (bit_is f some_aside fits) j))

-- what is left to free, as the code makes it
rest_is : (f : ℕ) → f ≢ 0 → f < 2 ^ 64
    → without f (1 * 2 ^ trailing_zeros w64 f % 2 ^ 64) ≡ without f (least_bit f)
rest_is f some_aside fits = ap (without f) (bit_is f some_aside fits)

pub fetch_sub-requires : goal.fetch_sub-requires
fetch_sub-requires g c =
    let m = c.args.self.now in let w = c.args.caller.now in let k = w.shape.value in let own = c.requires.caller in
    let R = g.row.R.Denot in let i : ℕ = c.args.word in let inside = in_words m w own i c.requires.within in
    let f : ℕ = c.swap-mask.result in let some_aside = c.if-mask-eq0.false in let fits = c.swap-mask.type_inv in
    let told = c.swap-mask.ensures.2 i (record_of w) c.aside_spot.ensures w.knows in
    let both = told.2 some_aside in let r2 = after_keep w i f inside in let me = c.swap-mask.new.seat.me in
    let code : ℕ = without f (1 * 2 ^ trailing_zeros w64 f % 2 ^ 64) in
    let rest : get_or r2.swept i 0 ≡ code = rest_left w i f inside ∙ sym (rest_is f some_aside fits) in
    let few = minus_le f (least_bit f) in let small : get_or r2.swept i 0 < 2 ^ 64 = omega (arith, rest_left w i f inside) in
    let a = asked m w own c.swap-mask.new.seat.id me (word_at i) c.word_spot.result (λ n. (n + (2 ^ 64 - code)) % 2 ^ 64)
    code 0 spilled c.word_spot.ensures (word_in k.layout i inside)
    (subst (λ (z : ℕ). Allows (Shown k) k.layout.depth c.swap-mask.new.seat.id me (word_at i)
    (λ n. (n + (2 ^ 64 - z)) % 2 ^ 64) (spilled (step k.layout.depth (word_at i) z 0 none) me)) rest
    (spill_allowed R k (narrow m w own) c.swap-mask.new.seat.id me r2 both.2.view both.2.carries i inside small)) in
    (c.swap-mask.ensures.0 ∙ own.0, a.0, a.1)

pub invariant_of-caller-then-rest-ne0 : goal.invariant_of-caller-then-rest-ne0
invariant_of-caller-then-rest-ne0 g c =
    let m = c.args.self.now in let w = c.args.caller.now in let i : ℕ = c.args.word in
    let inside = in_words m w c.requires.caller i c.requires.within in
    let f : ℕ = c.swap-mask.result in let some_aside = c.if-mask-eq0.false in let fits = c.swap-mask.type_inv in
    let both = (c.swap-mask.ensures.2 i (record_of w) c.aside_spot.ensures w.knows).2 some_aside in
    promised_one w i f inside _ (held_is w i f c.index.result.now some_aside fits inside c.index.ensures)
    c.requires.room both.0 c.swap-mask.new.seat.me both.2 c.fetch_sub.result c.fetch_sub.new.seat.me
    (c.fetch_sub.ensures.2 i (after_keep w i f inside) c.word_spot.ensures both.2.view)

pub invariant_of-caller-else-rest-ne0 : goal.invariant_of-caller-else-rest-ne0
invariant_of-caller-else-rest-ne0 g c =
    let m = c.args.self.now in let w = c.args.caller.now in let i : ℕ = c.args.word in
    let inside = in_words m w c.requires.caller i c.requires.within in
    let f : ℕ = c.swap-mask.result in let some_aside = c.if-mask-eq0.false in let fits = c.swap-mask.type_inv in
    let both = (c.swap-mask.ensures.2 i (record_of w) c.aside_spot.ensures w.knows).2 some_aside in
    promised_alone w i f inside _ (held_is w i f c.index.result.now some_aside fits inside c.index.ensures)
    c.requires.room both.0 c.swap-mask.new.seat.me both.2
    (sym (rest_is f some_aside fits) ∙ c.if-rest-ne0.false)

pub returns-then-rest-ne0-clause-some : goal.returns-then-rest-ne0-clause-some
returns-then-rest-ne0-clause-some g c =
    let m = c.args.self.now in let w = c.args.caller.now in let i : ℕ = c.args.word in let own = c.requires.caller in
    let l = w.shape.value.layout in let inside = in_words m w own i c.requires.within in
    let f : ℕ = c.swap-mask.result in let some_aside = c.if-mask-eq0.false in let fits = c.swap-mask.type_inv in
    let both = (c.swap-mask.ensures.2 i (record_of w) c.aside_spot.ensures w.knows).2 some_aside in
    let spills = c.fetch_sub.ensures.2 i (after_keep w i f inside) c.word_spot.ensures both.2.view in
    let holds = held_is w i f c.index.result.now some_aside fits inside c.index.ensures in
    let rest = rest_is f some_aside fits in record {
      mask = f;
      within = subst (λ (z : Shape). IsWithin z.layout i f) own.1 (swept_within w i f inside _ _ both.1);
      least = least_in f some_aside fits;
      rest_is = rest;
      alone = λ none. absurd (c.if-rest-ne0.true none);
      others = λ _. (
        c.fetch_sub.result,
        record {
          known = kept_one w i f inside _ holds c.fetch_sub.result c.fetch_sub.new.seat.me.0 spills.view
              ∙ (λ j. record_after (Word (Spill i (sym rest j) c.fetch_sub.result)) (after_keep w i f inside));
          slots = λ t was is. let now = ap (λ (z : List ℕ). tag_bit l z t) holds ∙ is.1 in
              spills.values t was.0 now now ∙ both.2.values t was.0 was.1 now ∙ both.1.values t was.0 was.1 was.1;
          same_map = c.fetch_sub.ensures.0 ∙ c.swap-mask.ensures.0;
        },
      );
    }

pub returns-else-rest-ne0-clause-some : goal.returns-else-rest-ne0-clause-some
returns-else-rest-ne0-clause-some g c =
    let m = c.args.self.now in let w = c.args.caller.now in let i : ℕ = c.args.word in let own = c.requires.caller in
    let l = w.shape.value.layout in let inside = in_words m w own i c.requires.within in
    let f : ℕ = c.swap-mask.result in let some_aside = c.if-mask-eq0.false in let fits = c.swap-mask.type_inv in
    let both = (c.swap-mask.ensures.2 i (record_of w) c.aside_spot.ensures w.knows).2 some_aside in
    let holds = held_is w i f c.index.result.now some_aside fits inside c.index.ensures in
    let rest = rest_is f some_aside fits in record {
      mask = f;
      within = subst (λ (z : Shape). IsWithin z.layout i f) own.1 (swept_within w i f inside _ _ both.1);
      least = least_in f some_aside fits;
      rest_is = rest;
      alone = λ _. record {
        known = kept_alone w i f inside _ holds c.swap-mask.new.seat.me.0 both.2.view (sym rest ∙ c.if-rest-ne0.false);
        slots = λ t was is. let now = ap (λ (z : List ℕ). tag_bit l z t) holds ∙ is.1 in
            both.2.values t was.0 was.1 now ∙ both.1.values t was.0 was.1 was.1;
        same_map = c.swap-mask.ensures.0;
      };
      others = λ some_left. absurd (some_left c.if-rest-ne0.false);
    }

pub returns-then-rest-ne0-clause-place : goal.returns-then-rest-ne0-clause-place
returns-then-rest-ne0-clause-place g c =
    let m = c.args.self.now in let w = c.args.caller.now in let i : ℕ = c.args.word in let own = c.requires.caller in
    let inside = in_words m w own i c.requires.within in let f : ℕ = c.swap-mask.result in
    let some_aside = c.if-mask-eq0.false in
    let both = (c.swap-mask.ensures.2 i (record_of w) c.aside_spot.ensures w.knows).2 some_aside in
    place_below w i f inside m own some_aside c.swap-mask.type_inv (swept_within w i f inside _ _ both.1)

pub returns-else-rest-ne0-clause-place : goal.returns-else-rest-ne0-clause-place
returns-else-rest-ne0-clause-place g c =
    let m = c.args.self.now in let w = c.args.caller.now in let i : ℕ = c.args.word in let own = c.requires.caller in
    let inside = in_words m w own i c.requires.within in let f : ℕ = c.swap-mask.result in
    let some_aside = c.if-mask-eq0.false in
    let both = (c.swap-mask.ensures.2 i (record_of w) c.aside_spot.ensures w.knows).2 some_aside in
    place_below w i f inside m own some_aside c.swap-mask.type_inv (swept_within w i f inside _ _ both.1)

pub returns-then-rest-ne0-clause-acquired : goal.returns-then-rest-ne0-clause-acquired
returns-then-rest-ne0-clause-acquired g c =
    let m = c.args.self.now in let w = c.args.caller.now in let i : ℕ = c.args.word in let own = c.requires.caller in
    let inside = in_words m w own i c.requires.within in let f : ℕ = c.swap-mask.result in
    let some_aside = c.if-mask-eq0.false in let fits = c.swap-mask.type_inv in
    let told = c.swap-mask.ensures.2 i (record_of w) c.aside_spot.ensures w.knows in let both = told.2 some_aside in
    let done = (returns-then-rest-ne0-clause-some g c).others c.if-rest-ne0.true in
    kept_acquires w i f inside m own some_aside fits (swept_within w i f inside _ _ both.1) _ refl done.1.slots told.0
    (sym (held_is w i f c.index.result.now some_aside fits inside c.index.ensures))

pub returns-else-rest-ne0-clause-acquired : goal.returns-else-rest-ne0-clause-acquired
returns-else-rest-ne0-clause-acquired g c =
    let m = c.args.self.now in let w = c.args.caller.now in let i : ℕ = c.args.word in let own = c.requires.caller in
    let inside = in_words m w own i c.requires.within in let f : ℕ = c.swap-mask.result in
    let some_aside = c.if-mask-eq0.false in let fits = c.swap-mask.type_inv in
    let told = c.swap-mask.ensures.2 i (record_of w) c.aside_spot.ensures w.knows in let both = told.2 some_aside in
    let done = (returns-else-rest-ne0-clause-some g c).alone c.if-rest-ne0.false in
    kept_acquires w i f inside m own some_aside fits (swept_within w i f inside _ _ both.1) _ refl done.slots told.0
    (sym (held_is w i f c.index.result.now some_aside fits inside c.index.ensures))
