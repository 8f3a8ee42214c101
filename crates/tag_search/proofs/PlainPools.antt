-- The pool of plain words after a put, a give and an opening.
use Rattle.tag_search.proofs.Uses.{[], ap, arith, bit_at, bit_at-lt, bit_at-pow_other, bit_at-pow_same, bit_at-zero, bit_at_or, bit_or, Bool, cond, dec_lt, dite, eq-eqb, eqb-true, false, free_at, get_or, get_or-replicate, get_or_past, Give, is_busy, IsAllFree, IsTaken, IsTrue, length}
use Rattle.tag_search.proofs.Uses.{length-replicate, List, lt-ltb, max, nat_eq, nat_lt, ne_eqb, Plain, plain_words, pool_of, Put, refl, replicate, RunsAlone, set_aside, suc, sym, true, without, Words, words_after, zero, ℕ, ℕ_discrete, ◌∙◌}
use Rattle.std.specs.Prelude.{not, ◌&&◌, ◌<◌, ◌^◌, ◌||◌, ◌↔◌, ◌∷◌, ◌≡◌, ◌≢◌, ◌≤◌}
use Rattle.tag_search.proofs.Pools.{pool_ext, or_false}
use Rattle.tag_search.proofs.Sweeps.{is_clear, is_one, clear_of, none_of, without_clear}

-- a bit of two words or-ed together is 1 exactly if it is 1 in one of them
or_one : (t : Bool) (a b : ℕ) → a < 2 → b < 2 → (t && nat_eq (max a b) 1) ≡ ((t && nat_eq a 1) || (t && nat_eq b 1))
or_one false a b h k = refl
or_one true zero zero h k = refl
or_one true zero (suc zero) h k = refl
or_one true (suc zero) zero h k = refl
or_one true (suc zero) (suc zero) h k = refl
or_one true (suc (suc a)) b h k = absurd (omega arith)
or_one true a (suc (suc b)) h k = absurd (omega arith)

-- so of the bits of two words or-ed together
pub one_or : (n m k : ℕ) → is_one (bit_or n m) k ≡ (is_one n k || is_one m k)
one_or n m k = ap (λ (x : ℕ). nat_lt k 64 && nat_eq x 1) (bit_at_or n m k)
    ∙ or_one (nat_lt k 64) (bit_at n k) (bit_at m k) (bit_at-lt n k) (bit_at-lt m k)

-- the single one of a power of two
pub one_pow : (place k : ℕ) → place < 64 → is_one (2 ^ place) k ≡ nat_eq k place
one_pow place k low = dite (ℕ_discrete k place)
    (λ (e : k ≡ place).
    let set : bit_at (2 ^ place) k ≡ 1 = ap (bit_at (2 ^ place)) e ∙ bit_at-pow_same place in
    let near : nat_lt k 64 ≡ true = ap (λ (x : ℕ). nat_lt x 64) e ∙ lt-ltb place 64 low in
    ap (λ (b : Bool). b && nat_eq (bit_at (2 ^ place) k) 1) near ∙ eq-eqb (bit_at (2 ^ place) k) 1 set
    ∙ sym (eq-eqb k place e))
    (λ (ne : k ≢ place). none_of (2 ^ place) k (bit_at-pow_other place k ne) ∙ sym (ne_eqb k place ne))

put_bit : (b : Bool) (x y place k : ℕ) → place < 64 → (b ≡ true → y ≡ x) → is_one (cond b (bit_or x (2 ^ place)) y) k
    ≡ (is_one y k || (b && nat_eq k place))
put_bit true x y place k low same = one_or x (2 ^ place) k
    ∙ (λ z. is_one (sym (same refl) z) k || one_pow place k low z)
put_bit false x y place k low same = sym (or_false (is_one y k))

-- a put sets its place aside
pub put_pool : (w : Words) (i place found : ℕ) → place < 64 → pool_of (words_after (Put i (2 ^ place) found) w)
    ≡ set_aside i place (pool_of w)
put_pool w i place found low = pool_ext (pool_of (words_after (Put i (2 ^ place) found) w))
    (set_aside i place (pool_of w))
    (λ j k. refl) (λ j k. put_bit (nat_eq j i) (w.aside i) (w.aside j) place k low (λ t. ap w.aside (eqb-true j i t)))

give_bit : (b : Bool) (x y m k : ℕ) → m < 2 ^ 64 → (b ≡ true → y ≡ x) → is_clear (cond b (without x m) y) k
    ≡ (is_clear y k || (b && nat_lt k 64 && nat_eq (bit_at m k) 1))
give_bit true x y m k fits same = without_clear x m k fits ∙ (λ z. is_clear (sym (same refl) z) k || is_one m k)
give_bit false x y m k fits same = sym (or_false (is_clear y k))

-- a give frees the places of its mask
pub give_pool : (w : Words) (i mask found : ℕ) → mask < 2 ^ 64 → pool_of (words_after (Give i mask found) w)
    ≡ free_at i mask (pool_of w)
give_pool w i mask found fits = pool_ext (pool_of (words_after (Give i mask found) w)) (free_at i mask (pool_of w))
    (λ j k. give_bit (nat_eq j i) (w.word i) (w.word j) mask k fits (λ t. ap w.word (eqb-true j i t))) (λ j k. refl)

-- the same, for a put that ran alone
pub ran_put_pool : (old new : Plain) (i place found : ℕ) → place < 64 → RunsAlone old (Put i (2 ^ place) found ∷ []) new
    → pool_of (plain_words new) ≡ set_aside i place (pool_of (plain_words old))
ran_put_pool old new i place found low ran = ap pool_of ran.leaves ∙ put_pool (plain_words old) i place found low

pub ran_give_pool : (old new : Plain) (i mask found : ℕ) → mask < 2 ^ 64 → RunsAlone old (Give i mask found ∷ []) new
    → pool_of (plain_words new) ≡ free_at i mask (pool_of (plain_words old))
ran_give_pool old new i mask found fits ran = ap pool_of ran.leaves ∙ give_pool (plain_words old) i mask found fits

-- a place below 64 is busy exactly if its bit is 1 and it is not set aside
busy_test : (l c a : Bool) → l ≡ true → not ((l && c) || (l && a)) ≡ (not c && not a)
busy_test true true a e = refl
busy_test true false a e = refl
busy_test false c a e = absurd (let no : false ≡ true = e in cc)

pub busy_of_taken : (p : Plain) (i k : ℕ) → k < 64 → IsTaken p i k → is_busy (pool_of (plain_words p)) i k ≡ true
busy_of_taken p i k low is =
    busy_test (nat_lt k 64) (nat_eq (bit_at (get_or p.word i 0) k) 0) (nat_eq (bit_at (get_or p.aside i 0) k) 1)
    (lt-ltb k 64 low)
    ∙ (λ z. not (nat_eq (is.taken z) 0) && not (nat_eq (is.not_aside z) 1))

pub taken_of_busy : (p : Plain) (i k : ℕ) → k < 64 → is_busy (pool_of (plain_words p)) i k ≡ true → IsTaken p i k
taken_of_busy p i k low busy =
    let e : (not (nat_eq (bit_at (get_or p.word i 0) k) 0) && not (nat_eq (bit_at (get_or p.aside i 0) k) 1)) ≡ true =
    sym (busy_test (nat_lt k 64) (nat_eq (bit_at (get_or p.word i 0) k) 0) (nat_eq (bit_at (get_or p.aside i 0) k) 1)
    (lt-ltb k 64 low)) ∙ busy in
    let both = split (bit_at (get_or p.word i 0) k) (bit_at (get_or p.aside i 0) k) (bit_at-lt (get_or p.word i 0) k)
    (bit_at-lt (get_or p.aside i 0) k) e in
    record { taken = both.0; not_aside = both.1 }
  where
    split : (a b : ℕ) → a < 2 → b < 2 → (not (nat_eq a 0) && not (nat_eq b 1)) ≡ true → (a ≡ 1) × (b ≡ 0)
    split zero b h g e = absurd (let no : false ≡ true = e in cc)
    split (suc zero) zero h g e = (refl, refl)
    split (suc zero) (suc zero) h g e = absurd (let no : false ≡ true = e in cc)
    split (suc zero) (suc (suc b)) h g e = absurd (omega arith)
    split (suc (suc a)) b h g e = absurd (omega arith)

-- words of zeros
zeros : (n i : ℕ) → get_or (replicate n zero) i zero ≡ zero
zeros n i =
    dite (dec_lt i n)
    (λ (h : i < n). get_or-replicate n i zero zero h)
    (λ no. let long : length (replicate n zero) ≤ i = omega (arith, length-replicate n zero) in
    get_or_past (replicate n zero) i zero long)

pub all_free : (p : Plain) (n : ℕ) → p.word ≡ replicate n zero → p.aside ≡ replicate n zero
    → IsAllFree (pool_of (plain_words p))
all_free p n e f = record {
  free = λ i k low. clear_of (get_or p.word i 0) k low (ap (λ (xs : List ℕ). bit_at (get_or xs i 0) k) e
      ∙ ap (λ (x : ℕ). bit_at x k) (zeros n i) ∙ bit_at-zero k);
  aside = λ i k. none_of (get_or p.aside i 0) k (ap (λ (xs : List ℕ). bit_at (get_or xs i 0) k) f
      ∙ ap (λ (x : ℕ). bit_at x k) (zeros n i) ∙ bit_at-zero k);
}

-- a test of whether a place is taken is one of whether it is busy
pub busy_iff : (p : Plain) (i k : ℕ) (b : Bool) → k < 64 → IsTrue b ↔ IsTaken p i k
    → IsTrue b ↔ IsTrue (is_busy (pool_of (plain_words p)) i k)
busy_iff p i k b low tells = (λ t. busy_of_taken p i k low (tells.0 t), λ busy. tells.1 (taken_of_busy p i k low busy))
