-- The numbers of tags held and set aside, counted word by word.
use Rattle.tag_script.proofs.Uses.{and_le_l, and_le_r, ap, arith, bit_and, bit_at, bit_at-lt, bit_at-zero, bit_at_and, bit_at_not, bit_not, Bool, cond, count_below, count_ones, count_word, eqb-true, false, is_busy, min, nat_eq, nat_lt, not, place_of-tag_at, Plain, plain_words, pool_of, refl, rules, slice_index, suc, sym, tag_at, true, w64, word_bits, word_depth, word_of, word_of-tag_at, words, zero, ℕ, ◌∙◌}
use Rattle.std.proofs.Common.{◌≡◌, ◌+◌, ◌-◌, ◌*◌, ◌^◌, ◌<◌, ◌≤◌, ◌&&◌, ◌||◌}
use Rattle.sums.proofs.Laws.{one_if-bit}
use Rattle.tag_layout.specs.Layout.{place_of}

-- a bit that is 1 and not aside
busy_bits : (b a : ℕ) → b < 2 → a < 2 → cond (not (nat_eq b 0 || nat_eq a 1)) 1 0 ≡ min b (1 - a)
busy_bits zero zero h k = refl
busy_bits zero (suc zero) h k = refl
busy_bits (suc zero) zero h k = refl
busy_bits (suc zero) (suc zero) h k = refl
busy_bits (suc (suc b)) a h k = absurd (omega arith)
busy_bits zero (suc (suc a)) h k = absurd (omega arith)
busy_bits (suc zero) (suc (suc a)) h k = absurd (omega arith)

-- a bit that is clear or aside
idle_bits : (b a : ℕ) → b < 2 → a < 2 → min b (1 - a) ≡ 0 → not (nat_eq b 0 || nat_eq a 1) ≡ false
idle_bits zero a h k e = refl
idle_bits (suc zero) (suc zero) h k e = refl
idle_bits (suc zero) zero h k e = absurd (omega arith)
idle_bits (suc (suc b)) a h k e = absurd (omega arith)
idle_bits (suc zero) (suc (suc a)) h k e = absurd (omega arith)

-- the bit of a place in the mask of the bits that are 1 and not aside
busy_place : (n a u place : ℕ) → place < 64 → a < 2 ^ 64 → bit_at u place ≡ 1
    → cond (not ((nat_lt place 64 && nat_eq (bit_at n place) 0) || (nat_lt place 64 && nat_eq (bit_at a place) 1))) 1 0
    ≡ bit_at (bit_and (bit_and n u) (bit_not w64 a)) place
busy_place n a u place low fits one =
    let below : nat_lt place 64 ≡ true = search (rules, low) in
    let both = bit_at_and (bit_and n u) (bit_not w64 a) place in let used = bit_at_and n u place in
    let other = bit_at_not w64 a place fits low in let b = bit_at-lt n place in
    ap (λ (t : Bool). cond (not ((t && nat_eq (bit_at n place) 0) || (t && nat_eq (bit_at a place) 1))) 1 0) below
    ∙ busy_bits (bit_at n place) (bit_at a place) b (bit_at-lt a place) ∙ omega arith

aside_place : (a u place : ℕ) → place < 64 → bit_at u place ≡ 1
    → cond (nat_lt place 64 && nat_eq (bit_at a place) 1) 1 0 ≡ bit_at (bit_and a u) place
aside_place a u place low one =
    let below : nat_lt place 64 ≡ true = search (rules, low) in
    let used = bit_at_and a u place in let b = bit_at-lt a place in
    ap (λ (t : Bool). cond (t && nat_eq (bit_at a place) 1) 1 0) below ∙ one_if-bit (bit_at a place) b ∙ omega arith

-- a number that a test does not find different from 0 is 0
pub zero_of : (x : ℕ) → not (nat_eq x 0) ≡ false → x ≡ 0
zero_of x e = eqb-true x 0 (true_of (nat_eq x 0) e)
  where
    true_of : (b : Bool) → not b ≡ false → b ≡ true
    true_of true f = refl
    true_of false f = sym f

-- if no bit is both set and not aside, no place is busy
pub idle_place : (p : Plain) (i place : ℕ) → place < 64 → slice_index p.aside i < 2 ^ 64
    → bit_and (slice_index p.word i) (bit_not w64 (slice_index p.aside i)) ≡ 0
    → is_busy (pool_of (plain_words p)) i place ≡ false
idle_place p i place low fits none =
    let n : ℕ = slice_index p.word i in let a : ℕ = slice_index p.aside i in
    let below : nat_lt place 64 ≡ true = search (rules, low) in
    let both = bit_at_and n (bit_not w64 a) place in let other = bit_at_not w64 a place fits low in
    let zero_bit : bit_at (bit_and n (bit_not w64 a)) place ≡ 0 =
    ap (λ (x : ℕ). bit_at x place) none ∙ bit_at-zero place in
    ap (λ (t : Bool). not ((t && nat_eq (bit_at n place) 0) || (t && nat_eq (bit_at a place) 1))) below
    ∙ idle_bits (bit_at n place) (bit_at a place) (bit_at-lt n place) (bit_at-lt a place) (omega arith)

module _ (p : Plain) (i u : ℕ) (there : i < words p.layout) (narrow : word_depth p.layout i ≤ 64)
    (usable : u + 1 ≡ 2 ^ word_depth p.layout i)
    (bits : (place : ℕ) → place < word_depth p.layout i → bit_at u place ≡ 1) where
  -- the bit of a tag that the caller holds
  pub held_place : slice_index p.aside i < 2 ^ 64 → (place : ℕ) → place < word_depth p.layout i
      → cond (is_busy (pool_of (plain_words p)) (word_of p.layout (tag_at p.layout i place))
      (place_of p.layout (tag_at p.layout i place))) 1 0
      ≡ bit_at (bit_and (bit_and (slice_index p.word i) u) (bit_not w64 (slice_index p.aside i))) place
  held_place fits place h =
      let w = word_of-tag_at p.layout i place (omega arith) in let k = place_of-tag_at p.layout i place (omega arith) in
      ap (λ (x : ℕ). cond (is_busy (pool_of (plain_words p)) x (place_of p.layout (tag_at p.layout i place))) 1 0) w
      ∙ ap (λ (x : ℕ). cond (is_busy (pool_of (plain_words p)) i x) 1 0) k
      ∙ busy_place (slice_index p.word i) (slice_index p.aside i) u place (omega arith) fits (bits place h)

  -- the tags that the caller holds
  pub count_held : slice_index p.aside i < 2 ^ 64
      → count_below (λ tag. is_busy (pool_of (plain_words p)) (word_of p.layout tag) (place_of p.layout tag))
      (min ((i + 1) * word_bits p.layout) p.layout.depth)
      ≡ count_below (λ tag. is_busy (pool_of (plain_words p)) (word_of p.layout tag) (place_of p.layout tag))
      (min (i * word_bits p.layout) p.layout.depth)
      + count_ones (bit_and (bit_and (slice_index p.word i) u) (bit_not w64 (slice_index p.aside i)))
  count_held fits =
      let n : ℕ = slice_index p.word i in let a : ℕ = slice_index p.aside i in
      let le = and_le_l (bit_and n u) (bit_not w64 a) in let le' = and_le_r n u in
      count_word p.layout (λ tag. is_busy (pool_of (plain_words p)) (word_of p.layout tag) (place_of p.layout tag)) i
      (bit_and (bit_and n u) (bit_not w64 a)) there (omega arith) (held_place fits)

  -- the tags that are set aside
  pub count_aside :
      count_below (λ tag. (pool_of (plain_words p)).aside (word_of p.layout tag) (place_of p.layout tag))
      (min ((i + 1) * word_bits p.layout) p.layout.depth)
      ≡ count_below (λ tag. (pool_of (plain_words p)).aside (word_of p.layout tag) (place_of p.layout tag))
      (min (i * word_bits p.layout) p.layout.depth)
      + count_ones (bit_and (slice_index p.aside i) u)
  count_aside =
      let a : ℕ = slice_index p.aside i in let le = and_le_r a u in
      count_word p.layout (λ tag. (pool_of (plain_words p)).aside (word_of p.layout tag) (place_of p.layout tag)) i
      (bit_and a u) there (omega arith) (λ place h.
      let w = word_of-tag_at p.layout i place (omega arith) in let k = place_of-tag_at p.layout i place (omega arith) in
      ap (λ (x : ℕ). cond ((pool_of (plain_words p)).aside x (place_of p.layout (tag_at p.layout i place))) 1 0) w
      ∙ ap (λ (x : ℕ). cond ((pool_of (plain_words p)).aside i x) 1 0) k
      ∙ aside_place a u place (omega arith) (bits place h))
