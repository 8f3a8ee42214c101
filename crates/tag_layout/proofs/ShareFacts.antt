-- How a shallow depth is shared out: the words' limits, and a share by one multiplication.
use Rattle.std.specs.Prelude.{◌%◌, ◌*◌, ◌+◌, ◌-◌, ◌/◌, ◌<◌, ◌^◌, ◌≡◌, ◌≤◌}
use Rattle.tag_layout.proofs.Uses.{ap, arith, dec_lt, dite, div-add-mod', div-mul-add, Layout, le-div, min, mod_below, mul-le-mul_left, mul-le-mul_right, shallow_limit, share, suc, sum_below, sym, word_bits, word_depth, words, zero, ℕ, ◌∙◌}
use Rattle.tag_layout.proofs.PlaceFacts.{word_bits-pos, depth-le-words}

-- a quotient is between its bounds
pub div-is : (n d q : ℕ) → 0 < d → q * d ≤ n → n < suc q * d → n / d ≡ q
div-is n d q pos low high =
    let whole : n / d * d + n % d ≡ n = div-add-mod' n d in let rest : n % d < d = mod_below n d pos in
    let at_least : q ≤ n / d = le-div q n d pos low in
    let at_most : n / d < suc q = dite (dec_lt (n / d) (suc q)) (λ h. h) (λ no. let over : suc q * d ≤ n / d * d =
    mul-le-mul_right d (omega arith) in absurd (omega arith)) in
    omega arith

pub div-le-div : (m n d : ℕ) → 0 < d → m ≤ n → m / d ≤ n / d
div-le-div m n d pos h = let whole : m / d * d + m % d ≡ m = div-add-mod' m d in le-div (m / d) n d pos (omega arith)

module _ (l : Layout) (s : ℕ) where
  -- more tags have no smaller share
  pub share-mono : (a b : ℕ) → 0 < l.depth → a ≤ b → share l s a ≤ share l s b
  share-mono a b pos h = div-le-div (min s l.depth * a) (min s l.depth * b) l.depth pos
      (mul-le-mul_left (min s l.depth) h)

  pub share-none : 0 < l.depth → share l s 0 ≡ 0
  share-none pos = div-is (min s l.depth * 0) l.depth 0 pos (omega arith) (omega arith)

  -- all tags have the whole
  pub share-all : 0 < l.depth → share l s l.depth ≡ min s l.depth
  share-all pos = div-is (min s l.depth * l.depth) l.depth (min s l.depth) pos (omega arith) (omega arith)

  -- w more tags have at most w more
  pub share-more : (a w : ℕ) → 0 < l.depth → share l s (a + w) ≤ share l s a + w
  share-more a w pos =
      let m : ℕ = min s l.depth in let d : ℕ = l.depth in
      let whole : m * a / d * d + m * a % d ≡ m * a = div-add-mod' (m * a) d in
      let rest : m * a % d < d = mod_below (m * a) d pos in
      let most : m * w ≤ d * w = mul-le-mul_right w (omega arith) in
      let spread : m * (a + w) ≡ m * a + m * w = omega arith in
      let more : (m * a / d + w) * d ≡ m * a / d * d + d * w = omega arith in
      let up : m * (a + w) / d ≤ ((m * a / d + w) * d + (m * a % d)) / d =
      div-le-div (m * (a + w)) ((m * a / d + w) * d + (m * a % d)) d pos (omega arith) in
      let is : ((m * a / d + w) * d + (m * a % d)) / d ≡ m * a / d + w =
      div-mul-add (m * a / d + w) d (m * a % d) rest in omega arith

  pub shallow_limit-le : (word : ℕ) → 0 < l.depth → shallow_limit l word s ≤ word_depth l word
  shallow_limit-le word pos = let more = share-more (word * word_bits l) (word_depth l word) pos in omega arith

  -- the first so many words have the share of the first so many tags
  pub sum_below-shallow_limit : (n : ℕ) → 0 < l.depth
      → sum_below (λ w. shallow_limit l w s) n ≡ share l s (min (n * word_bits l) l.depth)
  sum_below-shallow_limit zero pos = let z : min (0 * word_bits l) l.depth ≡ 0 = omega arith in
      sym (ap (share l s) z ∙ share-none pos)
  sum_below-shallow_limit (suc n) pos =
      let p : ℕ = word_bits l in let before = sum_below-shallow_limit n pos in
      let next : suc n * p ≡ n * p + p = omega arith in
      dite (dec_lt (n * p) l.depth)
      (λ (inside : n * p < l.depth).
      let here : min (n * p) l.depth ≡ n * p = omega arith in
      let there : min (suc n * p) l.depth ≡ n * p + word_depth l n = omega arith in
      let a : share l s (min (n * p) l.depth) ≡ share l s (n * p) = ap (share l s) here in
      let b : share l s (min (suc n * p) l.depth) ≡ share l s (n * p + word_depth l n) = ap (share l s) there in
      let up = share-mono (n * p) (n * p + word_depth l n) pos (omega arith) in omega arith)
      (λ outside.
      let here : min (n * p) l.depth ≡ l.depth = omega arith in
      let there : min (suc n * p) l.depth ≡ l.depth = omega arith in
      let none : n * p + word_depth l n ≡ n * p = omega arith in
      let a : share l s (min (n * p) l.depth) ≡ share l s l.depth = ap (share l s) here in
      let b : share l s (min (suc n * p) l.depth) ≡ share l s l.depth = ap (share l s) there in
      let c : share l s (n * p + word_depth l n) ≡ share l s (n * p) = ap (share l s) none in omega arith)

  -- all words together have the whole of the shallow depth
  pub shallow_limits-sum : sum_below (λ w. shallow_limit l w s) (words l) ≡ min s l.depth
  shallow_limits-sum = dite (dec_lt 0 l.depth)
      (λ (pos : 0 < l.depth).
      let sum = sum_below-shallow_limit (words l) pos in let room = depth-le-words l in
      let all : min (words l * word_bits l) l.depth ≡ l.depth = omega arith in
      let a : share l s (min (words l * word_bits l) l.depth) ≡ share l s l.depth = ap (share l s) all in
      let b = share-all pos in omega arith)
      (λ empty.
      let none : words l ≡ 0 = div-is (l.depth + word_bits l - 1) (word_bits l) 0 (word_bits-pos l) (omega arith)
      (omega (arith, word_bits-pos l)) in
      ap (sum_below (λ w. shallow_limit l w s)) none ∙ omega arith)

pub mul-le-mul : (a b m n : ℕ) → a ≤ m → b ≤ n → a * b ≤ m * n
mul-le-mul a b m n h g = let x : a * b ≤ m * b = mul-le-mul_right b h in let y : m * b ≤ m * n = mul-le-mul_left m g in
    omega arith

-- A quotient by one multiplication: the reciprocal of d, scaled and rounded up, is exact for numbers up to d * d.
module _ (n d : ℕ) (pos : 0 < d) (small : d ≤ 10240) (fits : n ≤ d * d) where
  abbrev reciprocal : ℕ
  reciprocal = 2 ^ 40 / d + 1

  -- what was rounded up
  abbrev excess : ℕ
  excess = d - 2 ^ 40 % d

  scaled : d * reciprocal ≡ 2 ^ 40 + excess
  scaled = let whole : 2 ^ 40 / d * d + 2 ^ 40 % d ≡ 2 ^ 40 = div-add-mod' (2 ^ 40) d in
      let low : 2 ^ 40 % d < d = mod_below (2 ^ 40) d pos in omega arith

  square : d * d ≤ 10240 * 10240
  square = mul-le-mul d d 10240 10240 small small

  pub product_fits : n * reciprocal < 2 ^ 64
  product_fits =
      let more : n * reciprocal ≤ d * d * reciprocal = mul-le-mul_right reciprocal fits in
      let turned : d * d * reciprocal ≡ d * (d * reciprocal) = omega arith in
      let is = scaled in
      let most : d * (d * reciprocal) ≤ 10240 * (2 ^ 40 + 10240) =
      mul-le-mul d (d * reciprocal) 10240 (2 ^ 40 + 10240) small (omega arith) in omega arith

  few : n / d ≤ d
  few = dite (dec_lt d (n / d))
      (λ (over : d < n / d). let whole : n / d * d + n % d ≡ n = div-add-mod' n d in
      let more : suc d * d ≤ n / d * d = mul-le-mul_right d over in absurd (omega arith))
      (λ no. omega arith)

  pub div-by_reciprocal : n * reciprocal / 2 ^ 40 ≡ n / d
  div-by_reciprocal =
      let q : ℕ = n / d in let r : ℕ = n % d in let m : ℕ = reciprocal in let e : ℕ = excess in let k : ℕ = 2 ^ 40 in
      let whole : q * d + r ≡ n = div-add-mod' n d in let rest : r < d = mod_below n d pos in
      let spread : n * m ≡ q * (d * m) + r * m = ap (λ x. x * m) (sym whole) ∙ omega arith in
      let over : q * (d * m) ≡ q * k + q * e = ap (λ x. q * x) scaled ∙ omega arith in
      let part : q * e ≤ d * d = mul-le-mul q e d d few (omega arith) in
      let most = square in
      let top : suc r * m ≤ d * m = mul-le-mul_right m rest in
      let top_is : suc r * m ≡ r * m + m = omega arith in
      let is = scaled in
      let large : 107374182 ≤ k / d = le-div 107374182 k d pos (omega arith) in
      let next : suc q * k ≡ q * k + k = omega arith in
      div-is (n * m) k q (omega arith) (omega arith) (omega arith)
