-- The pool of the words after claims and sweeps.
use Rattle.std.specs.Prelude.{◌&&◌, ◌-◌, ◌<◌, ◌^◌, ◌||◌, ◌∷◌, ◌≡◌}
use Rattle.tag_search.proofs.Uses.{[], ap, arith, bit_at, bit_at-lt, bit_at-pow_other, bit_at-pow_same, bit_at-zero, bit_at_and, bit_at_not, bit_at_or, bit_is, bit_or, Bool, Claimed, cond, dite, empty, eq-eqb, eqb-true, false, freed_in, inl, inr, IsSweep, List, LookAside, lt-ltb, ltb-true, max, min}
use Rattle.tag_search.proofs.Uses.{nat_eq, nat_lt, ne_eqb, not, pool_of, Quiet, refl, Spill, spilled, suc, Swap, sym, taken_at, taken_in, true, unseen, w64, without, Words, words_after, words_after_all, WordStep, zero, ℕ, ℕ_discrete, ◌∙◌}
use Rattle.tag_search.proofs.OneTag.{both_true}
use Rattle.tag_search.proofs.Pools.{pool_ext, or_false, and_true, and_false, taken_same}

-- the place is below 64, and its bit is 0 (or 1)
abbrev pub is_clear : ℕ → ℕ → Bool
is_clear n k = nat_lt k 64 && nat_eq (bit_at n k) 0

abbrev pub is_one : ℕ → ℕ → Bool
is_one n k = nat_lt k 64 && nat_eq (bit_at n k) 1

pub clear_of : (n k : ℕ) → k < 64 → bit_at n k ≡ 0 → is_clear n k ≡ true
clear_of n k h e = ap (λ (b : Bool). b && nat_eq (bit_at n k) 0) (lt-ltb k 64 h) ∙ eq-eqb (bit_at n k) 0 e

pub set_of : (n k : ℕ) → bit_at n k ≡ 1 → is_clear n k ≡ false
set_of n k e = ap (λ (x : ℕ). nat_lt k 64 && nat_eq x 0) e ∙ and_false (nat_lt k 64)

pub none_of : (n k : ℕ) → bit_at n k ≡ 0 → is_one n k ≡ false
none_of n k e = ap (λ (x : ℕ). nat_lt k 64 && nat_eq x 1) e ∙ and_false (nat_lt k 64)

pub bit_of_clear : (n k : ℕ) → is_clear n k ≡ true → bit_at n k ≡ 0
bit_of_clear n k e = eqb-true (bit_at n k) 0 (both_true (nat_lt k 64) (nat_eq (bit_at n k) 0) e).1

pub bit_of_set : (n k : ℕ) → k < 64 → is_clear n k ≡ false → bit_at n k ≡ 1
bit_of_set n k h e = elim (bit_is n k) [
  | inl one ↦ one
  | inr none ↦ absurd (let yes = clear_of n k h none in let no : true ≡ false = sym yes ∙ e in cc)
]

or_tests : (t : Bool) (a b : ℕ) → b < 2 → (t && nat_eq (max a b) 0) ≡ ((t && nat_eq a 0) && not (nat_eq b 1))
or_tests false a b h = refl
or_tests true a zero h = let e : max a 0 ≡ a = omega arith in ap (λ (x : ℕ). nat_eq x 0) e ∙ sym (and_true (nat_eq a 0))
or_tests true a (suc zero) h = ne_eqb (max a 1) 0 (λ e. omega arith) ∙ sym (and_false (nat_eq a 0))
or_tests true a (suc (suc b)) h = absurd (omega arith)

or_clear : (n m k : ℕ) → is_clear (bit_or n m) k ≡ (is_clear n k && not (nat_eq (bit_at m k) 1))
or_clear n m k = ap (λ (x : ℕ). nat_lt k 64 && nat_eq x 0) (bit_at_or n m k)
    ∙ or_tests (nat_lt k 64) (bit_at n k) (bit_at m k) (bit_at-lt m k)

claim_bit : (b : Bool) (x y m k : ℕ) → (b ≡ true → y ≡ x) → is_clear (cond b (bit_or x m) y) k
    ≡ (is_clear y k && not (b && nat_eq (bit_at m k) 1))
claim_bit true x y m k same = or_clear x m k ∙ ap (λ (n : ℕ). is_clear n k && not (nat_eq (bit_at m k) 1))
    (sym (same refl))
claim_bit false x y m k same = sym (and_true (is_clear y k))

-- a claim takes the places of its mask
pub claim_pool : (w : Words) (i mask found : ℕ) → pool_of (words_after (Claimed i mask found) w) ≡ taken_in i
    (λ k. nat_eq (bit_at mask k) 1) (pool_of w)
claim_pool w i mask found = pool_ext (pool_of (words_after (Claimed i mask found) w))
    (taken_in i (λ k. nat_eq (bit_at mask k) 1) (pool_of w))
    (λ j k. claim_bit (nat_eq j i) (w.word i) (w.word j) mask k (λ t. ap w.word (eqb-true j i t))) (λ j k. refl)

one_place : (place k : ℕ) → nat_eq (bit_at (2 ^ place) k) 1 ≡ nat_eq place k
one_place place k = dite (ℕ_discrete k place)
    (λ e. let set : bit_at (2 ^ place) k ≡ 1 = ap (bit_at (2 ^ place)) e ∙ bit_at-pow_same place in
    eq-eqb (bit_at (2 ^ place) k) 1 set ∙ sym (eq-eqb place k (sym e)))
    (λ ne. ap (λ (x : ℕ). nat_eq x 1) (bit_at-pow_other place k ne) ∙ sym (ne_eqb place k (λ e. ne (sym e))))

-- a claim of one place takes it
pub claim_one : (w : Words) (i place found : ℕ) → pool_of (words_after (Claimed i (2 ^ place) found) w)
    ≡ taken_at i place (pool_of w)
claim_one w i place found = claim_pool w i (2 ^ place) found ∙ taken_same i (λ k. nat_eq (bit_at (2 ^ place) k) 1)
    (nat_eq place) (pool_of w) (one_place place)

-- a bit of a word without a mask
pub bit_without : (n m k : ℕ) → m < 2 ^ 64 → k < 64 → bit_at (without n m) k ≡ min (bit_at n k) (1 - bit_at m k)
bit_without n m k fits within = bit_at_and n (2 ^ 64 - 1 - m) k ∙ ap (min (bit_at n k)) (bit_at_not w64 m k fits within)

without_tests : (a b : ℕ) → a < 2 → b < 2 → nat_eq (min a (1 - b)) 0 ≡ (nat_eq a 0 || nat_eq b 1)
without_tests zero zero h k = refl
without_tests zero (suc zero) h k = refl
without_tests (suc zero) zero h k = refl
without_tests (suc zero) (suc zero) h k = refl
without_tests (suc (suc a)) b h k = absurd (omega arith)
without_tests a (suc (suc b)) h k = absurd (omega arith)

-- a bit of a word without a mask is 0 exactly if it was 0 or is in the mask
pub without_clear : (n m k : ℕ) → m < 2 ^ 64 → is_clear (without n m) k ≡ (is_clear n k || is_one m k)
without_clear n m k fits = cases (nat_lt k 64) refl
  where
    cases : (t : Bool) → nat_lt k 64 ≡ t → (t && nat_eq (bit_at (without n m) k) 0)
        ≡ ((t && nat_eq (bit_at n k) 0) || (t && nat_eq (bit_at m k) 1))
    cases false e = refl
    cases true e = ap (λ (x : ℕ). nat_eq x 0) (bit_without n m k fits (ltb-true k 64 e))
        ∙ without_tests (bit_at n k) (bit_at m k) (bit_at-lt n k) (bit_at-lt m k)

spill_bit : (b : Bool) (x y a m k : ℕ) → (b ≡ true → y ≡ x) → (b ≡ true → a ≡ m) → m < 2 ^ 64
    → is_clear (cond b (without x m) y) k ≡ (is_clear y k || ((b || false) && is_one a k))
spill_bit true x y a m k same mask fits = without_clear x m k fits
    ∙ (λ z. is_clear (sym (same refl) z) k || is_one (sym (mask refl) z) k)
spill_bit false x y a m k same mask fits = sym (or_false (is_clear y k))

kept_bit : (b : Bool) (y a k : ℕ) → (b ≡ true → a ≡ 0) → is_clear y k ≡ (is_clear y k || ((b || false) && is_one a k))
kept_bit true y a k none = sym (ap (λ (c : Bool). is_clear y k || c)
    (none_of a k (ap (λ (n : ℕ). bit_at n k) (none refl) ∙ bit_at-zero k)) ∙ or_false (is_clear y k))
kept_bit false y a k none = sym (or_false (is_clear y k))

pub swap_bit : (b : Bool) (a k : ℕ) → is_one (cond b 0 a) k ≡ (not (b || false) && is_one a k)
swap_bit true a k = none_of 0 k (bit_at-zero k)
swap_bit false a k = refl

swap_none : (b : Bool) (a k : ℕ) → (b ≡ true → a ≡ 0) → is_one a k ≡ (not (b || false) && is_one a k)
swap_none true a k none = none_of a k (ap (λ (n : ℕ). bit_at n k) (none refl) ∙ bit_at-zero k)
swap_none false a k none = refl

-- a sweep frees what is set aside in its word
pub sweep_pool : {i mask : ℕ} {steps : List WordStep} → IsSweep i mask steps → (w : Words) → Quiet steps w
    → pool_of (words_after_all steps w) ≡ freed_in (i ∷ []) (pool_of w)
sweep_pool {i = i} unseen w quiet = pool_ext (pool_of (words_after_all (LookAside i 0 ∷ []) w))
    (freed_in (i ∷ []) (pool_of w))
    (λ j k. kept_bit (nat_eq j i) (w.word j) (w.aside j) k (λ t. ap w.aside (eqb-true j i t) ∙ sym quiet.0))
    (λ j k. swap_none (nat_eq j i) (w.aside j) k (λ t. ap w.aside (eqb-true j i t) ∙ sym quiet.0))
sweep_pool {i = i} (empty {seen = seen} some) w quiet =
    pool_ext (pool_of (words_after_all (LookAside i seen ∷ Swap i 0 ∷ []) w)) (freed_in (i ∷ []) (pool_of w))
    (λ j k. kept_bit (nat_eq j i) (w.word j) (w.aside j) k (λ t. ap w.aside (eqb-true j i t) ∙ sym quiet.1.0))
    (λ j k. swap_bit (nat_eq j i) (w.aside j) k)
sweep_pool {i = i} {mask = mask} (spilled {seen = seen} {found = found} some has fits) w quiet =
    pool_ext (pool_of (words_after_all (LookAside i seen ∷ Swap i mask ∷ Spill i mask found ∷ []) w))
    (freed_in (i ∷ []) (pool_of w))
    (λ j k. spill_bit (nat_eq j i) (w.word i) (w.word j) (w.aside j) mask k (λ t. ap w.word (eqb-true j i t))
    (λ t. ap w.aside (eqb-true j i t) ∙ sym quiet.1.0) fits)
    (λ j k. swap_bit (nat_eq j i) (w.aside j) k)
