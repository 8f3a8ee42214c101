-- A dump that is written byte by byte consists of its lines.
use Rattle.std.specs.Prelude.{if◌then◌else◌, ◌%◌, ◌*◌, ◌++◌, ◌+◌, ◌-◌, ◌/◌, ◌<◌, ◌==◌, ◌||◌, ◌∷◌, ◌≡◌, ◌≢◌}
use Rattle.std.proofs.Common.{Bool, List, [], ap, append-nil, append_assoc, arith, eq-eqb, false, length, min, ne_eqb, refl, suc, sym, true, zero, ℕ, ◌∙◌}
use Rattle.tag_pool.specs.Texts.{byte_text, dump_text, hex_digits, line_text}
use Rattle.std.specs.Prelude.{codes}
use Rattle.std.specs.Int.{div_ceil}
use Rattle.std.specs.List.{flat_map, range_with_len}
use Rattle.std.proofs.lemmas.Grind.{flat_map-append}

-- what is written before a byte, if it is the first of its line
abbrev pub head : ℕ → List ℕ
head n = if n % 16 == 0 then hex_digits 8 n ++ codes ":" else []

-- what is written after a byte, if it is the last of its line
abbrev pub end : ℕ → ℕ → List ℕ
end count n = if n % 16 == 15 || n + 1 == count then codes "\n" else []

-- what is written for the bytes before an offset
abbrev pub texts_below : List ℕ → ℕ → List ℕ
texts_below bytes zero = []
texts_below bytes (suc n) = texts_below bytes n ++ (head n ++ byte_text bytes n ++ end (length bytes) n)

-- one more number
range_more : (a n j : ℕ) → a + n ≡ j → range_with_len a (suc n) ≡ range_with_len a n ++ j ∷ []
range_more a zero j e = let same : a ≡ j = omega arith in ap (λ (k : ℕ). k ∷ []) same
range_more a (suc n) j e = ap (λ (l : List ℕ). a ∷ l) (range_more (a + 1) n j (omega arith))

-- the pieces for one more number
one_more : (f : ℕ → List ℕ) (a n j : ℕ) → a + n ≡ j
    → flat_map f (range_with_len a (suc n)) ≡ flat_map f (range_with_len a n) ++ f j
one_more f a n j e =
    ap (flat_map f) (range_more a n j e) ∙ flat_map-append f (range_with_len a n) (j ∷ [])
    ∙ ap (λ (t : List ℕ). flat_map f (range_with_len a n) ++ t) (append-nil (f j))

-- the choice at a test whose outcome is known
chosen : (b c : Bool) (x y : List ℕ) → b ≡ c → (if b then x else y) ≡ (if c then x else y)
chosen b c x y e = ap (λ (t : Bool). if t then x else y) e

head_first : (n : ℕ) → n % 16 ≡ 0 → head n ≡ hex_digits 8 n ++ codes ":"
head_first n e = chosen (n % 16 == 0) true (hex_digits 8 n ++ codes ":") [] (eq-eqb (n % 16) 0 e)

head_later : (n : ℕ) → n % 16 ≢ 0 → head n ≡ []
head_later n ne = chosen (n % 16 == 0) false (hex_digits 8 n ++ codes ":") [] (ne_eqb (n % 16) 0 ne)

end_full : (count n : ℕ) → n % 16 ≡ 15 → end count n ≡ codes "\n"
end_full count n e = chosen (n % 16 == 15 || n + 1 == count) true (codes "\n") []
    (ap (λ (b : Bool). b || n + 1 == count) (eq-eqb (n % 16) 15 e))

end_none : (count n : ℕ) → n % 16 ≢ 15 → n + 1 ≢ count → end count n ≡ []
end_none count n full last = chosen (n % 16 == 15 || n + 1 == count) false (codes "\n") []
    (ap (λ (b : Bool). b || n + 1 == count) (ne_eqb (n % 16) 15 full) ∙ ne_eqb (n + 1) count last)

end_last : (count n : ℕ) → n + 1 ≡ count → end count n ≡ codes "\n"
end_last count n last = chosen (n % 16 == 15 || n + 1 == count) true (codes "\n") []
    (ap (λ (b : Bool). n % 16 == 15 || b) (eq-eqb (n + 1) count last) ∙ or_true (n % 16 == 15))
  where
    or_true : (b : Bool) → (b || true) ≡ true
    or_true true = refl
    or_true false = refl

module _ (bytes : List ℕ) where
  -- the first lines
  abbrev lines : ℕ → List ℕ
  lines q = flat_map (λ (line : ℕ). line_text bytes (16 * line)) (range_with_len 0 q)

  -- a line with some of its bytes, and without its end
  abbrev begun : ℕ → ℕ → List ℕ
  begun q r = hex_digits 8 (16 * q) ++ codes ":" ++ flat_map (byte_text bytes) (range_with_len (16 * q) r)

  -- what is written of a line before one of its bytes
  abbrev so_far : ℕ → ℕ → List ℕ
  so_far q zero = []
  so_far q (suc r) = begun q (suc r)

  -- one more byte of a line
  grown : (n q r : ℕ) → n ≡ 16 * q + r → r < 16 → so_far q r ++ (head n ++ byte_text bytes n) ≡ begun q (suc r)
  grown n q zero is low =
      let at : n ≡ 16 * q = omega arith in let first : n % 16 ≡ 0 = omega arith in
      ap (λ (t : List ℕ). t ++ byte_text bytes n) (head_first n first)
      ∙ ap (λ (k : ℕ). hex_digits 8 k ++ codes ":" ++ byte_text bytes n) at
      ∙ ap (λ (t : List ℕ). hex_digits 8 (16 * q) ++ codes ":" ++ t)
      (sym (one_more (byte_text bytes) (16 * q) 0 n (omega arith)))
  grown n q (suc r) is low =
      let inside : n % 16 ≢ 0 = omega arith in
      let words : List ℕ = hex_digits 8 (16 * q) ++ codes ":" in
      let before : List ℕ = flat_map (byte_text bytes) (range_with_len (16 * q) (suc r)) in
      ap (λ (t : List ℕ). words ++ before ++ (t ++ byte_text bytes n)) (head_later n inside)
      ∙ append_assoc words before (byte_text bytes n)
      ∙ ap (λ (t : List ℕ). words ++ t) (sym (one_more (byte_text bytes) (16 * q) (suc r) n (omega arith)))

  -- three pieces after others
  regroup : (a b h x e : List ℕ) → (a ++ b) ++ (h ++ x ++ e) ≡ a ++ ((b ++ (h ++ x)) ++ e)
  regroup a b h x e = simp append_assoc

  -- a byte inside a line
  inside : (n q r : ℕ) → n ≡ 16 * q + r → r < 16 → end (length bytes) n ≡ []
      → (lines q ++ so_far q r) ++ (head n ++ byte_text bytes n ++ end (length bytes) n) ≡ lines q ++ begun q (suc r)
  inside n q r is low none =
      regroup (lines q) (so_far q r) (head n) (byte_text bytes n) (end (length bytes) n)
      ∙ ap (λ (t : List ℕ). lines q ++ (t ++ end (length bytes) n)) (grown n q r is low)
      ∙ ap (λ (t : List ℕ). lines q ++ (begun q (suc r) ++ t)) none
      ∙ ap (λ (t : List ℕ). lines q ++ t) (append-nil (begun q (suc r)))

  -- the last byte of a line
  closes : (n q r : ℕ) → n ≡ 16 * q + r → r < 16 → min 16 (length bytes - 16 * q) ≡ suc r
      → end (length bytes) n ≡ codes "\n"
      → (lines q ++ so_far q r) ++ (head n ++ byte_text bytes n ++ end (length bytes) n) ≡ lines (suc q)
  closes n q r is low wide last =
      regroup (lines q) (so_far q r) (head n) (byte_text bytes n) (end (length bytes) n)
      ∙ ap (λ (t : List ℕ). lines q ++ (t ++ end (length bytes) n)) (grown n q r is low)
      ∙ ap (λ (t : List ℕ). lines q ++ (begun q (suc r) ++ t)) last
      ∙ ap (λ (k : ℕ). lines q ++ (begun q k ++ codes "\n")) (sym wide)
      ∙ sym (one_more (λ (line : ℕ). line_text bytes (16 * line)) 0 q q (omega arith))

  -- before a byte: the lines before its own, and what is written of its own
  before : (n q r : ℕ) → n ≡ 16 * q + r → r < 16 → n < length bytes → texts_below bytes n ≡ lines q ++ so_far q r
  before zero q r is low there =
      let a : q ≡ 0 = omega arith in let b : r ≡ 0 = omega arith in
      sym (ap (λ (k : ℕ). lines k ++ so_far k r) a ∙ ap (λ (k : ℕ). so_far 0 k) b)
  before (suc n) zero zero is low there = absurd (omega arith)
  before (suc n) (suc p) zero is low there =
      let at : n ≡ 16 * p + 15 = omega arith in let full : n % 16 ≡ 15 = omega arith in
      ap (λ (t : List ℕ). t ++ (head n ++ byte_text bytes n ++ end (length bytes) n))
      (before n p 15 at (omega arith) (omega arith))
      ∙ closes n p 15 at (omega arith) (omega arith) (end_full (length bytes) n full)
      ∙ sym (append-nil (lines (suc p)))
  before (suc n) q (suc r) is low there =
      let at : n ≡ 16 * q + r = omega arith in let part : n % 16 ≢ 15 = omega arith in
      let more : n + 1 ≢ length bytes = omega arith in
      ap (λ (t : List ℕ). t ++ (head n ++ byte_text bytes n ++ end (length bytes) n))
      (before n q r at (omega arith) (omega arith))
      ∙ inside n q r at (omega arith) (end_none (length bytes) n part more)

  pub texts_below-all : texts_below bytes (length bytes) ≡ dump_text bytes
  texts_below-all = by_length (length bytes) refl
    where
      by_length : (count : ℕ) → length bytes ≡ count → texts_below bytes (length bytes) ≡ dump_text bytes
      by_length zero long =
          ap (texts_below bytes) long
          ∙ sym (ap (λ (k : ℕ). lines (div_ceil k 16)) long)
      by_length (suc n) long =
          let q : ℕ = n / 16 in let r : ℕ = n % 16 in let at : n ≡ 16 * q + r = omega arith in
          let low : r < 16 = omega arith in
          let count : div_ceil (length bytes) 16 ≡ suc q = omega arith in
          ap (texts_below bytes) long
          ∙ ap (λ (t : List ℕ). t ++ (head n ++ byte_text bytes n ++ end (length bytes) n))
          (before n q r at low (omega arith))
          ∙ closes n q r at low (omega arith) (end_last (length bytes) n (omega arith))
          ∙ sym (ap lines count)
