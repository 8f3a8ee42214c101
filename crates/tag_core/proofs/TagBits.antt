-- A tag's bits in words and masks, and what they are once one word is changed.
use Rattle.std.specs.Prelude.{◌%◌, ◌-◌, ◌/◌, ◌<◌, ◌^◌, ◌≡◌, ◌≢◌, ◌≤◌}
use Rattle.tag_core.proofs.Uses.{ap, arith, bit_at, bit_at-lt, bit_at-pow_other, bit_at-pow_same, bit_at-trailing_zeros, bit_at-zero, bit_at_or, bit_or, changed_at, eq-eqb, get_or, get_or-set_other, get_or-set_same, length, List, max, min, mod_below, ne_eqb, one_if-le, place_of, pow_below, pow_pos}
use Rattle.tag_core.proofs.Uses.{set, Shape, tag_at, tag_at-back, tag_bit, trailing_zeros, w64, without, word_depth, word_of, ℕ, ◌∙◌}
use Rattle.std.proofs.Math.Pow.{pow_mono}
use Rattle.tag_core.proofs.Picks.{among, only}
use Rattle.tag_core.proofs.Masks.{bit_minus}
use Rattle.tag_core.proofs.Stand.{same_tag}

module _ (k : Shape) (narrow : k.layout.shift ≤ 6) where
  -- a tag's place is below 64
  pub place_small : (t : ℕ) → t % 2 ^ k.layout.shift < 64
  place_small t =
      let p : ℕ = 2 ^ k.layout.shift in let low : t % p < p = mod_below t p (pow_pos k.layout.shift) in
      let le : 2 ^ k.layout.shift ≤ 2 ^ 6 = pow_mono narrow in omega arith

  -- a word within the layout has at most 64 bits
  pub small_word : (i n : ℕ) → n < 2 ^ word_depth k.layout i → n < 2 ^ 64
  small_word i n h =
      let le : 2 ^ k.layout.shift ≤ 2 ^ 6 = pow_mono narrow in let low : word_depth k.layout i ≤ 64 = omega arith in
      let le2 : 2 ^ word_depth k.layout i ≤ 2 ^ 64 = pow_mono low in omega arith

  -- bit of a mask at a tag in its word, and in another
  pub among_here : (i m t : ℕ) → t / 2 ^ k.layout.shift ≡ i
      → bit_at m (t % 2 ^ k.layout.shift) ≡ among k.layout.shift i m t
  among_here i m t e = grind (arith, eq-eqb)

  -- and in another word
  pub among_else : (i m t : ℕ) → t / 2 ^ k.layout.shift ≢ i → 0 ≡ among k.layout.shift i m t
  among_else i m t e = grind (arith, ne_eqb)

  -- it is 0 or 1
  pub among_small : (i m t : ℕ) → among k.layout.shift i m t < 2
  among_small i m t = grind (arith, bit_at-lt)

  -- a tag's bit after an or of one word
  pub or_bit : (g : ℕ → ℕ) (i m t : ℕ)
      → max (bit_at (g (t / 2 ^ k.layout.shift)) (t % 2 ^ k.layout.shift)) (among k.layout.shift i m t) ≡ bit_at
      (changed_at g i (bit_or (g i) m) (t / 2 ^ k.layout.shift)) (t % 2 ^ k.layout.shift)
  or_bit g i m t = grind (arith, bit_at_or)

  -- and after an and-not
  pub minus_bit : (g : ℕ → ℕ) (i m t : ℕ) → m < 2 ^ 64
      → min (bit_at (g (t / 2 ^ k.layout.shift)) (t % 2 ^ k.layout.shift)) (1 - among k.layout.shift i m t) ≡ bit_at
      (changed_at g i (without (g i) m) (t / 2 ^ k.layout.shift)) (t % 2 ^ k.layout.shift)
  minus_bit g i m t fits = grind (arith, bit_minus, place_small, bit_at-lt)

  -- masks of which one was set, as a function
  pub list_bit : (l : List ℕ) (i x t : ℕ) → i < length l
      → bit_at (changed_at (λ j. get_or l j 0) i x (t / 2 ^ k.layout.shift)) (t % 2 ^ k.layout.shift) ≡ tag_bit k.layout
      (set l i x) t
  list_bit l i x t h = grind (arith, get_or-set_same, get_or-set_other)

  -- the bit of one tag is its bit in a mask of it alone
  pub only_among : (u t : ℕ) → only t u ≡ among k.layout.shift (u / 2 ^ k.layout.shift) (2 ^ (u % 2 ^ k.layout.shift)) t
  only_among u t = grind (arith, bit_at-pow_same, bit_at-pow_other, same_tag)

  -- that mask has at most 64 bits
  pub tag_mask : (u : ℕ) → 2 ^ (u % 2 ^ k.layout.shift) < 2 ^ 64
  tag_mask u = pow_below (u % 2 ^ k.layout.shift) 64 (place_small u)

  -- the bit of one tag is 0 or 1
  pub only_small : (t u : ℕ) → only t u < 2
  only_small t u = grind (arith, one_if-le)

  -- it is 1 at that tag alone
  pub only_is : (t u : ℕ) → only t u ≡ 1 → t ≡ u
  only_is t u e = grind (arith, ne_eqb)

  -- the tag that a put's mask names
  pub tag_named : (u : ℕ) → tag_at k.layout (word_of k.layout u) (trailing_zeros w64 (2 ^ place_of k.layout u)) ≡ u
  tag_named u = let p : ℕ = place_of k.layout u in
      let low = bit_at-trailing_zeros w64 (2 ^ p) (pow_pos p) (tag_mask u) in
      let is : trailing_zeros w64 (2 ^ p) ≡ p = grind (arith, bit_at-pow_other p (trailing_zeros w64 (2 ^ p)), low.1) in
      ap (tag_at k.layout (word_of k.layout u)) is ∙ tag_at-back k.layout u

  -- the bits y of a mask for one word
  pub among_as : (i m t y : ℕ) → y < 2 → (t / 2 ^ k.layout.shift ≡ i → bit_at m (t % 2 ^ k.layout.shift) ≡ y)
      → min (only (t / 2 ^ k.layout.shift) i) y ≡ among k.layout.shift i m t
  among_as i m t y h here = grind arith

  -- a mask that is emptied
  pub none_left : (g : ℕ → ℕ) (i t y : ℕ) → y < 2 → y ≡ bit_at (g (t / 2 ^ k.layout.shift)) (t % 2 ^ k.layout.shift)
      → min y (1 - only (t / 2 ^ k.layout.shift) i) ≡ bit_at (changed_at g i 0 (t / 2 ^ k.layout.shift))
      (t % 2 ^ k.layout.shift)
  none_left g i t y h is = grind (arith, bit_at-zero)
