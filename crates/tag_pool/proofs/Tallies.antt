-- The number of tags found busy or set aside, counted one word at a time.
use Rattle.std.proofs.Common.{Bool, List, [], ap, arith, bit_and, cond, count_ones, false, length, min, nat_eq, refl, subst, suc, sym, true, zero, ℕ, ◌∙◌}
use Rattle.std.proofs.lemmas.Nat.{and_le_l, and_le_r}
use Rattle.std.specs.Int.{bit_at, bit_not, w64}
use Rattle.std.proofs.lemmas.Nat.Bits.{bit_at-lt, bit_at_above, bit_at_and, bit_at_not}
use Rattle.sums.specs.Below.{count_below, one_if}
use Rattle.sums.proofs.Laws.{count_below-le, one_if-bit, one_if-le, sum_below-add, sum_below-bound, sum_below-same, sum_below-split}
use native.Mathlib.Decide.{dec_lt}
use Rattle.tag_layout.proofs.PlaceFacts.{depth-le-words, place_of-tag_at, tag_at-back, word-start, word_of-tag_at}
use mathlib.Core.Logic.{dite}
use Rattle.std.proofs.lemmas.List.{get_or_append_left, get_or_push}
use Rattle.tag_pool.specs.Looks.{is_aside_in, is_busy_in, word_in}
use Rattle.tag_layout.specs.Layout.{Layout, place_of, tag_at, word_bits, word_depth, word_of, words}
use Rattle.tag_pool.specs.Bits.{Marks}
use Rattle.std.specs.Prelude.{◌↔◌, ◌&&◌, ◌*◌, ◌++◌, ◌+◌, ◌-◌, ◌<◌, ◌^◌, ◌∷◌, ◌≡◌, ◌≤◌}
use Rattle.std.proofs.Math.Nat.{mul-le-mul_right}
use Rattle.tag_model.proofs.MaskFacts.{sum_below-bits}
use Rattle.tag_pool.proofs.Marking.{marks-like, marks-then}

-- a tag is busy if its bit is taken and not set aside, as numbers
busy_bits : (b a : ℕ) → b < 2 → a < 2 → cond (nat_eq b 1 && nat_eq a 0) 1 0 ≡ min b (1 - a)
busy_bits zero zero h k = refl
busy_bits zero (suc zero) h k = refl
busy_bits (suc zero) zero h k = refl
busy_bits (suc zero) (suc zero) h k = refl
busy_bits (suc (suc b)) a h k = absurd (omega arith)
busy_bits zero (suc (suc a)) h k = absurd (omega arith)
busy_bits (suc zero) (suc (suc a)) h k = absurd (omega arith)

module _ (l : Layout) (test : ℕ → Bool) where
  -- before the first word nothing is counted
  pub none_yet : 0 ≡ count_below test (min (0 * word_bits l) l.depth)
  none_yet = let e : 0 ≡ min (0 * word_bits l) l.depth = omega arith in ap (count_below test) e

  -- the tags up to the end of a word that pass a test are those before the word and the bits set in the word's mask
  pub count_word : (i mask : ℕ) → i < words l → mask < 2 ^ word_depth l i
      → ((place : ℕ) → place < word_depth l i → cond (test (tag_at l i place)) 1 0 ≡ bit_at mask place)
      → count_below test (min ((i + 1) * word_bits l) l.depth) ≡ count_below test (min (i * word_bits l) l.depth)
      + count_ones mask
  count_word i mask there within each =
      let f : ℕ → ℕ = λ k. cond (test k) 1 0 in
      let start = word-start l i there in
      let more : (i + 1) * word_bits l ≡ i * word_bits l + word_bits l = omega arith in
      let here : min (i * word_bits l) l.depth ≡ i * word_bits l = omega arith in
      let next : min ((i + 1) * word_bits l) l.depth ≡ i * word_bits l + word_depth l i = omega arith in
      let split = sum_below-split f (i * word_bits l) (word_depth l i) in
      let same = sum_below-same (λ k. f (i * word_bits l + k)) (bit_at mask) (word_depth l i) each in
      let ones = sum_below-bits (word_depth l i) mask within in
      let before = ap (count_below test) here in
      ap (count_below test) next ∙ omega arith

-- if the lowest `depth` bits of a 64-bit word are all 1, there are at most 64 of them
pub narrow_word : (u depth : ℕ) → u < 2 ^ 64 → ((place : ℕ) → place < depth → bit_at u place ≡ 1) → depth ≤ 64
narrow_word u depth fits bits = dite (dec_lt 64 depth)
    (λ (h : 64 < depth). absurd (let one = bits 64 h in
    let none = bit_at_above u 64 64 fits (omega arith) in omega arith))
    (λ no. omega arith)

-- the tags of all words are all tags of the set
pub all_words : (l : Layout) (n : ℕ) → words l ≤ n → min (n * word_bits l) l.depth ≡ l.depth
all_words l n h =
    let room = depth-le-words l in let more : words l * word_bits l ≤ n * word_bits l =
    mul-le-mul_right (word_bits l) h in omega arith

-- a tag below the first tag of a word is in an earlier word
earlier : (l : Layout) (i tag : ℕ) → tag < min (i * word_bits l) l.depth → word_of l tag < i
earlier l i tag low = dite (dec_lt (word_of l tag) i) (λ (h : word_of l tag < i). h)
    (λ no. absurd (let back = tag_at-back l tag in
    let much : i * word_bits l ≤ word_of l tag * word_bits l = mul-le-mul_right (word_bits l) (omega arith) in
    omega arith))

module _ (l : Layout) (found : List (ℕ × ℕ)) (pair : ℕ × ℕ) (i : ℕ) (count : length found ≡ i) where
  -- one more pair changes nothing about the words before it
  word_before : (tag : ℕ) → tag < min (i * word_bits l) l.depth
      → word_in (found ++ pair ∷ []) (word_of l tag) ≡ word_in found (word_of l tag)
  word_before tag low = get_or_append_left found (pair ∷ []) (0, 0) (word_of l tag)
      (let e = earlier l i tag low in omega arith)

  word_here : (place : ℕ) → place < word_bits l → word_in (found ++ pair ∷ []) (word_of l (tag_at l i place)) ≡ pair
  word_here place low = get_or_push found pair (0, 0) (word_of l (tag_at l i place))
      (count ∙ sym (word_of-tag_at l i place low))

  busy_before : count_below (is_busy_in l (found ++ pair ∷ [])) (min (i * word_bits l) l.depth)
      ≡ count_below (is_busy_in l found) (min (i * word_bits l) l.depth)
  busy_before = sum_below-same (λ tag. cond (is_busy_in l (found ++ pair ∷ []) tag) 1 0)
      (λ tag. cond (is_busy_in l found tag) 1 0) (min (i * word_bits l) l.depth)
      (λ tag low. ap (λ (w : ℕ × ℕ). cond (nat_eq (bit_at w.0 (place_of l tag)) 1
      && nat_eq (bit_at w.1 (place_of l tag)) 0) 1 0) (word_before tag low))

  aside_before : count_below (is_aside_in l (found ++ pair ∷ [])) (min (i * word_bits l) l.depth)
      ≡ count_below (is_aside_in l found) (min (i * word_bits l) l.depth)
  aside_before = sum_below-same (λ tag. cond (is_aside_in l (found ++ pair ∷ []) tag) 1 0)
      (λ tag. cond (is_aside_in l found tag) 1 0) (min (i * word_bits l) l.depth)
      (λ tag low. ap (λ (w : ℕ × ℕ). cond (nat_eq (bit_at w.1 (place_of l tag)) 1) 1 0) (word_before tag low))

  module _ (u : ℕ) (there : i < words l) (small : u < 2 ^ 64) (usable : u + 1 ≡ 2 ^ word_depth l i)
      (bits : (place : ℕ) → place < word_depth l i → bit_at u place ≡ 1) where
    narrow : word_depth l i ≤ 64
    narrow = narrow_word u (word_depth l i) small bits

    -- the tag at this place was found busy exactly if its bit is 1 in the mask
    pub busy_here : pair.1 < 2 ^ 64 → (place : ℕ) → place < word_depth l i
        → cond (is_busy_in l (found ++ pair ∷ []) (tag_at l i place)) 1 0
        ≡ bit_at (bit_and (bit_and pair.0 u) (bit_not w64 pair.1)) place
    busy_here fits place low =
        let deep = narrow in let one = bits place low in
        let both = bit_at_and (bit_and pair.0 u) (bit_not w64 pair.1) place in let used = bit_at_and pair.0 u place in
        let other = bit_at_not w64 pair.1 place fits (omega arith) in let b = bit_at-lt pair.0 place in
        ap (λ (w : ℕ × ℕ). cond (nat_eq (bit_at w.0 (place_of l (tag_at l i place))) 1
        && nat_eq (bit_at w.1 (place_of l (tag_at l i place))) 0) 1 0)
        (word_here place (omega arith))
        ∙ ap (λ (k : ℕ). cond (nat_eq (bit_at pair.0 k) 1 && nat_eq (bit_at pair.1 k) 0) 1 0)
        (place_of-tag_at l i place (omega arith))
        ∙ busy_bits (bit_at pair.0 place) (bit_at pair.1 place) b (bit_at-lt pair.1 place) ∙ omega arith

    pub count_busy : pair.1 < 2 ^ 64
        → count_below (is_busy_in l (found ++ pair ∷ [])) (min ((i + 1) * word_bits l) l.depth)
        ≡ count_below (is_busy_in l found) (min (i * word_bits l) l.depth)
        + count_ones (bit_and (bit_and pair.0 u) (bit_not w64 pair.1))
    count_busy fits =
        let le = and_le_l (bit_and pair.0 u) (bit_not w64 pair.1) in let le' = and_le_r pair.0 u in
        count_word l (is_busy_in l (found ++ pair ∷ [])) i (bit_and (bit_and pair.0 u) (bit_not w64 pair.1)) there
        (omega arith) (busy_here fits)
        ∙ ap (λ (n : ℕ). n + count_ones (bit_and (bit_and pair.0 u) (bit_not w64 pair.1))) busy_before

    aside_here : (place : ℕ) → place < word_depth l i
        → cond (is_aside_in l (found ++ pair ∷ []) (tag_at l i place)) 1 0 ≡ bit_at (bit_and pair.1 u) place
    aside_here place low =
        let one = bits place low in let used = bit_at_and pair.1 u place in let b = bit_at-lt pair.1 place in
        ap (λ (w : ℕ × ℕ). cond (nat_eq (bit_at w.1 (place_of l (tag_at l i place))) 1) 1 0)
        (word_here place (omega arith))
        ∙ ap (λ (k : ℕ). cond (nat_eq (bit_at pair.1 k) 1) 1 0) (place_of-tag_at l i place (omega arith))
        ∙ one_if-bit (bit_at pair.1 place) b ∙ omega arith

    pub count_aside :
        count_below (is_aside_in l (found ++ pair ∷ [])) (min ((i + 1) * word_bits l) l.depth)
        ≡ count_below (is_aside_in l found) (min (i * word_bits l) l.depth) + count_ones (bit_and pair.1 u)
    count_aside =
        let le = and_le_r pair.1 u in
        count_word l (is_aside_in l (found ++ pair ∷ [])) i (bit_and pair.1 u) there (omega arith) aside_here
        ∙ ap (λ (n : ℕ). n + count_ones (bit_and pair.1 u)) aside_before

-- the sums over one more word
pub record Counted (l : Layout) (found : List (ℕ × ℕ)) (pair : ℕ × ℕ) (i u : ℕ) : Type 0 where
  pub busy : count_below (is_busy_in l (found ++ pair ∷ [])) (min ((i + 1) * word_bits l) l.depth)
      ≡ count_below (is_busy_in l found) (min (i * word_bits l) l.depth)
      + count_ones (bit_and (bit_and pair.0 u) (bit_not w64 pair.1))
  pub aside : count_below (is_aside_in l (found ++ pair ∷ [])) (min ((i + 1) * word_bits l) l.depth)
      ≡ count_below (is_aside_in l found) (min (i * word_bits l) l.depth) + count_ones (bit_and pair.1 u)
  pub few_busy : count_below (is_busy_in l (found ++ pair ∷ [])) (min ((i + 1) * word_bits l) l.depth) ≤ l.depth
  pub few_aside : count_below (is_aside_in l (found ++ pair ∷ [])) (min ((i + 1) * word_bits l) l.depth) ≤ l.depth

pub counted : (layout l : Layout) → layout ≡ l → (found : List (ℕ × ℕ)) (pair : ℕ × ℕ) (i u : ℕ) → length found ≡ i
    → i < words layout → u < 2 ^ 64
    → u + 1 ≡ 2 ^ word_depth layout i → ((place : ℕ) → (bit_at u place ≡ 1) ↔ (place < word_depth layout i))
    → pair.1 < 2 ^ 64
    → Counted l found pair i u
counted layout l is found pair i u count there small usable bits fits =
    subst (λ (s : Layout). Counted s found pair i u) is (record {
      busy = count_busy layout found pair i count u there small usable (λ place low. (bits place).1 low) fits;
      aside = count_aside layout found pair i count u there small usable (λ place low. (bits place).1 low);
      few_busy = (let le = count_below-le (is_busy_in layout (found ++ pair ∷ [])) (min ((i + 1) * word_bits layout) layout.depth)
          in omega arith);
      few_aside = (let le = count_below-le (is_aside_in layout (found ++ pair ∷ []))
          (min ((i + 1) * word_bits layout) layout.depth) in omega arith);
    })

-- the tags of one more word are marked
pub marks_word : (w : ℕ) (l : Layout) (found : List (ℕ × ℕ)) (pair : ℕ × ℕ) (i : ℕ) → length found ≡ i → (u : ℕ)
    → i < words l → u < 2 ^ 64
    → u + 1 ≡ 2 ^ word_depth l i → ((place : ℕ) → (bit_at u place ≡ 1) ↔ (place < word_depth l i)) → pair.1 < 2 ^ 64
    → (first : ℕ) (old mid new : List ℕ) → Marks w first (min (i * word_bits l) l.depth) (is_busy_in l found) old mid
    → Marks w (first + tag_at l i 0) (word_depth l i)
    (λ k. nat_eq (bit_at (bit_and (bit_and pair.0 u) (bit_not w64 pair.1)) k) 1) mid new
    → Marks w first (min ((i + 1) * word_bits l) l.depth) (is_busy_in l (found ++ pair ∷ [])) old new
marks_word w l found pair i count u there small usable bits fits first old mid new one two =
    let start = word-start l i there in
    let more : (i + 1) * word_bits l ≡ i * word_bits l + word_bits l = omega arith in
    let here : min (i * word_bits l) l.depth ≡ i * word_bits l = omega arith in
    let next : i * word_bits l + word_depth l i ≡ min ((i + 1) * word_bits l) l.depth = omega arith in
    let at : tag_at l i 0 ≡ i * word_bits l = omega arith in
    let mask : ℕ = bit_and (bit_and pair.0 u) (bit_not w64 pair.1) in
    let before = marks-like w first (min (i * word_bits l) l.depth) (is_busy_in l found)
    (is_busy_in l (found ++ pair ∷ [])) old mid
    (λ k less. sym (ap (λ (x : ℕ × ℕ). one_if
    (nat_eq (bit_at x.0 (place_of l k)) 1 && nat_eq (bit_at x.1 (place_of l k)) 0))
    (word_before l found pair i count k less))) one in
    subst (λ (n : ℕ). Marks w first n (is_busy_in l (found ++ pair ∷ [])) old new) next
    (marks-then w first (i * word_bits l) (word_depth l i) (is_busy_in l (found ++ pair ∷ []))
    (λ k. nat_eq (bit_at mask k) 1) old mid new
    (subst (λ (n : ℕ). Marks w first n (is_busy_in l (found ++ pair ∷ [])) old mid) here before)
    (subst (λ (n : ℕ). Marks w (first + n) (word_depth l i) (λ k. nat_eq (bit_at mask k) 1) mid new) at two)
    (λ k less. one_if-bit (bit_at mask k) (bit_at-lt mask k)
    ∙ sym (busy_here l found pair i count u there small usable (λ place low. (bits place).1 low) fits k less)))

-- the held tags of the words so far were found busy, and so are those of one more word
pub held_word : (l : Layout) (found : List (ℕ × ℕ)) (pair : ℕ × ℕ) (i : ℕ) → length found ≡ i → (holds : ℕ → Type 0)
    → ((tag : ℕ) → holds tag → word_of l tag < i → is_busy_in l found tag ≡ true)
    → ((tag : ℕ) → holds tag → word_of l tag ≡ i → (bit_at pair.0 (place_of l tag) ≡ 1)
    × (bit_at pair.1 (place_of l tag) ≡ 0))
    → (tag : ℕ) → holds tag → word_of l tag < i + 1 → is_busy_in l (found ++ pair ∷ []) tag ≡ true
held_word l found pair i count holds before here tag h low = dite (dec_lt (word_of l tag) i)
    (λ (less : word_of l tag < i). ap (λ (w : ℕ × ℕ). nat_eq (bit_at w.0 (place_of l tag)) 1
    && nat_eq (bit_at w.1 (place_of l tag)) 0)
    (get_or_append_left found (pair ∷ []) (0, 0) (word_of l tag) (omega arith)) ∙ before tag h less)
    (λ no. let is : word_of l tag ≡ i = omega arith in let f = here tag h is in
    ap (λ (w : ℕ × ℕ). nat_eq (bit_at w.0 (place_of l tag)) 1 && nat_eq (bit_at w.1 (place_of l tag)) 0)
    (get_or_push found pair (0, 0) (word_of l tag) (count ∙ sym is))
    ∙ ap (λ (x : ℕ). nat_eq x 1 && nat_eq (bit_at pair.1 (place_of l tag)) 0) f.0 ∙ ap (λ (x : ℕ). nat_eq x 0) f.1)

-- a tag is not both busy and set aside
apart : (test : Bool) (a : ℕ) → a < 2 → one_if (test && nat_eq a 0) + one_if (nat_eq a 1) ≤ 1
apart test zero h = let le = one_if-le (test && nat_eq 0 0) in let none : one_if (nat_eq 0 1) ≡ 0 = refl in omega arith
apart true (suc zero) h =
    let none : one_if (true && nat_eq 1 0) ≡ 0 = refl in let le = one_if-le (nat_eq 1 1) in omega arith
apart false (suc zero) h =
    let none : one_if (false && nat_eq 1 0) ≡ 0 = refl in let le = one_if-le (nat_eq 1 1) in omega arith
apart test (suc (suc a)) h = absurd (omega arith)

-- so both together are no more than the tags
pub no_more : (l : Layout) (found : List (ℕ × ℕ)) (n : ℕ)
    → count_below (is_busy_in l found) n + count_below (is_aside_in l found) n ≤ n
no_more l found n =
    let busy : ℕ → ℕ = λ tag. one_if (is_busy_in l found tag) in
    let aside : ℕ → ℕ = λ tag. one_if (is_aside_in l found tag) in
    let both = sum_below-add (λ tag. busy tag + aside tag) busy aside n (λ tag low. refl) in
    let bound = sum_below-bound (λ tag. busy tag + aside tag) n 1 (λ tag low.
    apart (nat_eq (bit_at (word_in found (word_of l tag)).0 (place_of l tag)) 1)
    (bit_at (word_in found (word_of l tag)).1 (place_of l tag))
    (bit_at-lt (word_in found (word_of l tag)).1 (place_of l tag))) in omega arith
