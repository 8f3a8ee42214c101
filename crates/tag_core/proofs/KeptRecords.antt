-- A caller after a sweep of which it kept the least tag.
use Rattle.std.specs.Prelude.{◌+◌, ◌<◌, ◌^◌, ◌∷◌, ◌≡◌, ◌≢◌, ◌≤◌}
use Rattle.tag_core.proofs.Uses.{ap, arith, bit_at, Caller, Carries, count_ones, FindsHeld, get_or, Holds, HoldsMore, IsCallerOf, IsWithin, joined, Keep, Layout, layout_of, least_bit, length, length-set, List, Map, Me, own_view, place_of, place_of-tag_at, Record, record_after, record_of, Shape}
use Rattle.tag_core.proofs.Uses.{slot_of, Spill, Stepped, steps_of, subst, Swap, sym, tag_at, tag_at-below, trailing_zeros, View, w64, without, Word, word_bits, word_depth, word_of, word_of-tag_at, words, ℕ, ◌∙◌}
use Rattle.tag_core.proofs.OneBit.{count_ones-pow}
use Rattle.tag_core.proofs.Sweepings.{mask_of, rest_of, all_kept, rest_freed}
use Rattle.tag_core.proofs.Asking.{record_with, Promises, shows}
use Rattle.tag_core.proofs.Keepings.{least_in, least_below}
use Rattle.tag_core.proofs.Holdings.{brings_one}

module _ {R : Type 0} (w : Caller R) (i f : ℕ) (inside : i < words w.shape.value.layout) where
  -- its record after the swap, and after what it keeps
  abbrev pub after_swap : Record R
  after_swap = record_after (Word (Swap i f)) (record_of w)

  abbrev pub after_keep : Record R
  after_keep = record_after (Word (Keep i (least_bit f))) (record_after (Word (Swap i f)) (record_of w))

  -- what is left to free
  pub rest_left : get_or after_keep.swept i 0 ≡ without f (least_bit f)
  rest_left = rest_of (words w.shape.value.layout) i f (least_bit f) inside

  -- what was swept lies in the word
  pub swept_within : (me me' : Me R (View R)) → Stepped (Word (Swap i f)) (record_of w) me me'
      → IsWithin w.shape.value.layout i f
  swept_within me me' did = subst (IsWithin w.shape.value.layout i) (mask_of (words w.shape.value.layout) i f inside)
      (did.shown.known.swept_within i inside)

  won_one : w.won + 1 ≡ w.won + 0 + count_ones (least_bit f)
  won_one = let one = count_ones-pow (trailing_zeros w64 f) in omega arith

  -- the fields that a call leaves
  module _ (held : List ℕ) (held_is : joined w.held.items i (least_bit f) ≡ held) where
    -- they give its record where nothing is left to free
    pub kept_alone : (view : View R) → view ≡ own_view after_keep → without f (least_bit f) ≡ 0
        → record_with w held (w.won + 1) w.back view ≡ after_keep
    kept_alone view is none j = record {
      shape = w.shape.value;
      number = w.number;
      held = sym held_is j;
      swept = sym (all_kept (words w.shape.value.layout) i f (least_bit f) inside none) j;
      won = won_one j;
      back = same w.back j;
      steps = ap steps_of is j;
    }
      where
        same : (n : ℕ) → n ≡ n + 0 + 0
        same n = omega arith

    -- and where the rest was freed
    pub kept_one : (n : ℕ) (view : View R)
        → view ≡ own_view (record_after (Word (Spill i (get_or after_keep.swept i 0) n)) after_keep)
        → record_with w held (w.won + 1) w.back view
        ≡ record_after (Word (Spill i (without f (least_bit f)) n)) after_keep
    kept_one n view is j = record {
      shape = w.shape.value;
      number = w.number;
      held = sym held_is j;
      swept = sym (rest_freed (words w.shape.value.layout) i f (least_bit f) inside) j;
      won = (won_one ∙ same (w.won + 0 + count_ones (least_bit f))) j;
      back = thrice w.back j;
      steps = (ap steps_of is ∙ (λ z. Word (Spill i (rest_left z) n) ∷ Word (Keep i (least_bit f)) ∷ Word (Swap i f)
          ∷ steps_of w.seat.me.0)) j;
    }
      where
        same : (n : ℕ) → n ≡ n + 0
        same n = omega arith

        thrice : (n : ℕ) → n ≡ n + 0 + 0 + 0
        thrice n = omega arith

    held_long : length held ≡ words w.shape.value.layout
    held_long = ap length (sym held_is) ∙ length-set w.held.items i _ ∙ w.wide

    -- so the caller is what its type promises
    module _ (room : w.won + 1 ≤ w.shape.value.life) (me mid : Me R (View R))
        (keeps : Stepped (Word (Keep i (least_bit f))) after_swap me mid) where
      pub promised_alone : without f (least_bit f) ≡ 0 → Promises w held (w.won + 1) w.back mid
      promised_alone none = record {
        told = w.told;
        knows = keeps.view ∙ ap own_view (sym (kept_alone mid.0 keeps.view none));
        shown = shows (Word (Keep i (least_bit f))) after_swap me mid keeps;
        carries = subst (λ (z : List ℕ). Carries w.shape.value.layout z mid.1) held_is keeps.carries;
        wide = held_long;
        unspent = (let told = w.told.1 in omega arith, w.unspent.1);
        few_back = w.few_back;
      }

      pub promised_one : (n : ℕ) (me' : Me R (View R))
          → Stepped (Word (Spill i (get_or after_keep.swept i 0) n)) after_keep mid me'
          → Promises w held (w.won + 1) w.back me'
      promised_one n me' spills = record {
        told = w.told;
        knows = spills.view
            ∙ (λ j. own_view (record_after (Word (Spill i (rest_left j) n)) after_keep))
            ∙ ap own_view (sym (kept_one n me'.0 spills.view));
        shown = shows (Word (Spill i (get_or after_keep.swept i 0) n)) after_keep mid me' spills;
        carries = subst (λ (z : List ℕ). Carries w.shape.value.layout z me'.1) held_is spills.carries;
        wide = held_long;
        unspent = (let told = w.told.1 in omega arith, w.unspent.1);
        few_back = w.few_back;
      }

  -- the tag that it keeps
  module _ (m : Map R) (own : IsCallerOf m w) (some_aside : f ≢ 0) (fits : f < 2 ^ 64)
      (within : IsWithin w.shape.value.layout i f) where
    abbrev place : ℕ
    place = trailing_zeros w64 f

    -- its place is one of the word
    pub place_below : trailing_zeros w64 f < word_depth (layout_of m) i
    place_below = subst (λ (z : Shape). trailing_zeros w64 f < word_depth z.layout i) own.1
        (least_below f some_aside fits (word_depth w.shape.value.layout i) within)

    -- it comes to what the caller holds
    pub kept_acquires : (new : Caller R) → new.shape.value ≡ w.shape.value
        → ((tag : ℕ) → Holds w tag → Holds new tag → slot_of new tag ≡ slot_of w tag)
        → FindsHeld (record_of w) i f 0 → new.held.items ≡ joined w.held.items i (least_bit f)
        → HoldsMore (λ t. t ≡ tag_at (layout_of m) i (trailing_zeros w64 f)) w new
    kept_acquires new same slots unheld is = subst (λ (z : Shape). HoldsMore (λ t. t ≡ tag_at z.layout i place) w new) own.1
        (brings_one m w new own same slots (tag_at l i place) (tag_at-below l i place low) fresh
        (is ∙ (λ j. joined w.held.items (sym word_is j) (2 ^ sym place_is j))))
      where
        l : Layout
        l = w.shape.value.layout

        low : place < word_depth w.shape.value.layout i
        low = least_below f some_aside fits (word_depth w.shape.value.layout i) within

        few : place < word_bits w.shape.value.layout
        few = let below = low in omega arith

        word_is : word_of w.shape.value.layout (tag_at w.shape.value.layout i place) ≡ i
        word_is = word_of-tag_at w.shape.value.layout i place few

        place_is : place_of w.shape.value.layout (tag_at w.shape.value.layout i place) ≡ place
        place_is = place_of-tag_at w.shape.value.layout i place few

        fresh : ¬ (Holds w (tag_at w.shape.value.layout i place))
        fresh has = let clear = unheld (tag_at w.shape.value.layout i place) has.0 word_is has.1 in
            let one = (least_in f some_aside fits).is in
            let zero_there : bit_at f place ≡ 0 = ap (bit_at f) (sym place_is) ∙ clear in omega arith
