-- The word of a caller's mask that a call reads, and the mask after a call changed one tag's bit in it.
use Rattle.std.specs.Prelude.{◌%◌, ◌*◌, ◌-◌, ◌<◌, ◌^◌, ◌≡◌}
use Rattle.tag_core.proofs.Uses.{ap, bit_at, Caller, get_or, get_or_read, Holds, Layout, one_shl, place_of, slice_index, slice_set, subst, sym, without, word_of, word_of-below, words, ℕ, ◌∙◌}
use Rattle.tag_core.proofs.Masks.{take_bit}

-- what stands in a word of the mask
pub mask_read : {R : Type 0} (w : Caller R) (i was : ℕ) → i < words w.shape.value.layout
    → was ≡ get_or w.held.items i was → was ≡ slice_index w.held.items i
mask_read w i was inside found = get_or_read w.held.items i was (subst (λ (z : ℕ). i < z) (sym w.wide) inside) found 0

module _ {R : Type 0} (w : Caller R) (u i b : ℕ) (i_is : i ≡ word_of w.layout u) (b_is : b ≡ place_of w.layout u)
    (below : b < 64) where
  -- the word, in the layout that contracts see
  pub word_is : i ≡ word_of w.shape.value.layout u
  word_is = i_is ∙ ap (λ (z : Layout). word_of z u) w.told.0

  -- the place in it, in that layout
  place_is : b ≡ place_of w.shape.value.layout u
  place_is = b_is ∙ ap (λ (z : Layout). place_of z u) w.told.0

  -- the bit there
  pub bit_is : 1 * 2 ^ b % 2 ^ 64 ≡ 2 ^ place_of w.shape.value.layout u
  bit_is = one_shl b 64 below ∙ ap (λ (z : ℕ). 2 ^ z) place_is

  -- the mask with this word changed in this bit
  pub marked : (change : ℕ → ℕ → ℕ) (was : ℕ) → u < w.shape.value.layout.depth → was ≡ get_or w.held.items i was
      → slice_set w.held.items (word_of w.shape.value.layout u)
      (change (slice_index w.held.items (word_of w.shape.value.layout u)) (2 ^ place_of w.shape.value.layout u))
      ≡ slice_set w.held.items i (change was (1 * 2 ^ b % 2 ^ 64))
  marked change was within found =
      let inside : i < words w.shape.value.layout = subst (λ (z : ℕ). z < words w.shape.value.layout) (sym word_is)
      (word_of-below w.shape.value.layout u within) in
      (λ j. slice_set w.held.items (sym word_is j) (change (slice_index w.held.items (sym word_is j)) (sym bit_is j)))
      ∙ ap (λ (z : ℕ). slice_set w.held.items i (change z (1 * 2 ^ b % 2 ^ 64))) (sym (mask_read w i was inside found))

  -- the word without a tag that the caller holds is the difference
  without_is : (was : ℕ) → was < 2 ^ 64 → Holds w u → was ≡ get_or w.held.items i was
      → without was (1 * 2 ^ b % 2 ^ 64) ≡ was - 1 * 2 ^ b % 2 ^ 64
  without_is was fits has found =
      let inside : i < words w.shape.value.layout = subst (λ (z : ℕ). z < words w.shape.value.layout) (sym word_is)
      (word_of-below w.shape.value.layout u has.0) in
      let read : was ≡ slice_index w.held.items i = mask_read w i was inside found in
      let one : bit_at was b ≡ 1 =
      (λ j. bit_at ((read ∙ ap (slice_index w.held.items) word_is) j) (place_is j)) ∙ has.1 in
      subst (λ (z : ℕ). without was z ≡ was - z) (sym (one_shl b 64 below)) (sym (take_bit was b fits below one))

  -- the mask without the tag, where the difference stands in this word
  pub struck : (was : ℕ) → was < 2 ^ 64 → Holds w u → was ≡ get_or w.held.items i was
      → slice_set w.held.items (word_of w.shape.value.layout u)
      (without (slice_index w.held.items (word_of w.shape.value.layout u)) (2 ^ place_of w.shape.value.layout u))
      ≡ slice_set w.held.items i (was - 1 * 2 ^ b % 2 ^ 64)
  struck was fits has found = marked without was has.0 found
      ∙ ap (slice_set w.held.items i) (without_is was fits has found)
