-- The tags of a mask: which they are, and how many.
use Rattle.std.specs.Prelude.{◌&&◌, ◌*◌, ◌+◌, ◌/◌, ◌<◌, ◌==◌, ◌^◌, ◌≡◌, ◌≢◌, ◌≤◌}
use Rattle.tag_model.proofs.Uses.{ap, arith, bit_at-lt, bit_at-pow_other, bit_at-pow_same, bit_at-suc, bit_at_above, bit_at_lowest, Bool, count_ones, dite, eq-eqb, false, is_in_mask, IsWithin, Layout, ne_eqb, one_if, one_if-bit, place_of, pow-suc, suc, sum_below, sum_below-same, sum_below-split}
use Rattle.tag_model.proofs.Uses.{sum_below-window, word_bits, word_depth, word_of, words, zero, ℕ, ℕ_discrete, ⊎_elim, ◌∙◌}
use lib.Count.{ones_step}
use Rattle.std.specs.Int.{bit_at}
use Rattle.std.proofs.lemmas.Nat.{ones-le}
use Rattle.tag_layout.proofs.PlaceFacts.{word-start, word_bits-pos, tag_at-back, place_of-below, word_of-tag_at, place_of-tag_at}

-- the sum of the bits is their number
pub sum_below-bits : (width mask : ℕ) → mask < 2 ^ width → sum_below (bit_at mask) width ≡ count_ones mask
sum_below-bits zero mask h = let few = ones-le 0 mask h in omega arith
sum_below-bits (suc width) mask h =
    let e : suc width ≡ 1 + width = omega arith in let split = sum_below-split (bit_at mask) 1 width in
    let low = bit_at_lowest mask in
    let half : mask / 2 < 2 ^ width = omega (arith, pow-suc 2 width) in
    let rest = sum_below-bits width (mask / 2) half in let step = ones_step mask in
    let shifted = sum_below-same (λ b. bit_at mask (1 + b)) (bit_at (mask / 2)) width (λ b h2. (let z : 1 + b ≡ suc b =
    omega arith in ap (bit_at mask) z) ∙ bit_at-suc mask b) in
    ap (sum_below (bit_at mask)) e ∙ omega arith

module _ (l : Layout) (word mask : ℕ) where
  -- in the mask's word the tag's bit decides
  pub in_mask-here : (tag : ℕ) → word_of l tag ≡ word
      → one_if (is_in_mask l word mask tag) ≡ bit_at mask (place_of l tag)
  in_mask-here tag here = grind (arith, one_if-bit, bit_at-lt)

  pub in_mask-else : (tag : ℕ) → word_of l tag ≢ word → one_if (is_in_mask l word mask tag) ≡ 0
  in_mask-else tag else_where = grind arith

  -- a word's tags have as many of the mask's bits as the mask has
  pub sum_below-mask : word < words l → IsWithin l word mask
      → sum_below (λ tag. one_if (is_in_mask l word mask tag)) l.depth ≡ count_ones mask
  sum_below-mask there within =
      let p : ℕ = word_bits l in let start = word-start l word there in let pos = word_bits-pos l in
      let bit = λ (tag : ℕ). one_if (is_in_mask l word mask tag) in
      sum_below-window bit l.depth (word * p) (word_depth l word) (omega arith)
      (λ tag h out. in_mask-else tag (λ here.
      let is = tag_at-back l tag in let same : word_of l tag * p ≡ word * p = ap (λ (z : ℕ). z * p) here in
      let low : place_of l tag < p = omega arith in
      ⊎_elim (λ (before : tag < word * p). absurd (omega arith))
      (λ (behind : word * p + word_depth l word ≤ tag). absurd (omega arith)) out))
      ∙ sum_below-same (λ b. bit (word * p + b)) (bit_at mask) (word_depth l word)
      (λ b h. in_mask-here (word * p + b) (word_of-tag_at l word b (omega arith))
      ∙ ap (bit_at mask) (place_of-tag_at l word b (omega arith)))
      ∙ sum_below-bits (word_depth l word) mask within

  -- no tag past the depth is in a mask of usable bits
  pub in_mask-past : (tag : ℕ) → IsWithin l word mask → l.depth ≤ tag → is_in_mask l word mask tag ≡ false
  in_mask-past tag within past = dite (ℕ_discrete (word_of l tag) word)
      (λ (here : word_of l tag ≡ word).
      let p : ℕ = word_bits l in let is = tag_at-back l tag in
      let same : word_of l tag * p ≡ word * p = ap (λ (z : ℕ). z * p) here in
      let none : bit_at mask (place_of l tag) ≡ 0 =
      bit_at_above mask (word_depth l word) (place_of l tag) within (omega arith) in
      ap (λ (b : Bool). b && (bit_at mask (place_of l tag) == 1)) (eq-eqb (word_of l tag) word here)
      ∙ ap (λ (x : ℕ). x == 1) none)
      (λ (else_where : word_of l tag ≢ word). ap (λ (b : Bool). b && (bit_at mask (place_of l tag) == 1))
      (ne_eqb (word_of l tag) word else_where))

-- an event that names one tag names those of its bit
pub names-one : (l : Layout) (tag t : ℕ) → (t == tag) ≡ is_in_mask l (word_of l tag) (2 ^ place_of l tag) t
names-one l tag t = grind (arith, bit_at-pow_same, bit_at-pow_other, tag_at-back)

-- an event that names a whole word names those of all its bits
pub names-word : (l : Layout) (word mask t : ℕ) → ((place : ℕ) → place < word_depth l word → bit_at mask place ≡ 1)
    → t < l.depth → (word_of l t == word) ≡ is_in_mask l word mask t
names-word l word mask t usable h = grind (arith, place_of-below, usable (place_of l t))
