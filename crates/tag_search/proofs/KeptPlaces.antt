-- A sweep that keeps a place: which place of a rank that is, and the pool after it.
use Rattle.std.specs.Prelude.{◌&&◌, ◌++◌, ◌+◌, ◌-◌, ◌<◌, ◌^◌, ◌||◌, ◌∷◌, ◌≡◌, ◌≢◌}
use Rattle.tag_search.proofs.Uses.{[], All, All-cons, All-head, All-nil, All-tail, and_le_l, ap, arith, bit_at, bit_at-pow_other, bit_at-pow_same, bit_at-zero, Bool, cond, dite, eq-eqb, eqb-true, false, freed_in, get_or, IsAside, IsBusy, IsFirst, IsFirstSwept, IsKeepingSweep, IsLeastIn, IsSet, Keep}
use Rattle.tag_search.proofs.Uses.{kept_alone, kept_one, List, LookAside, lt-ltb, ltb-true, nat_eq, nat_lt, ne_eqb, not, numbers, pool_of, pow_below, Quiet, refl, scan_order, Spill, subst, Swap, sym, taken_at, true, without, Words, words_after_all, WordStep, ℕ, ℕ_discrete}
use Rattle.tag_search.proofs.Uses.{◌∙◌}
use Rattle.std.proofs.Common.{append_assoc}
use Rattle.tag_search.proofs.Orders.{numbers-at, order-split, all_numbers}
use Rattle.tag_search.proofs.Passes.{all_behind}
use Rattle.tag_search.proofs.Pools.{pool_ext, or_false, and_true, and_false}
use Rattle.tag_search.proofs.Sweeps.{is_clear, is_one, none_of, bit_without, without_clear, swap_bit}

-- the least place of a mask is the first swept of all places, in order
pub first_swept : (mask place depth : ℕ) → place < depth → IsLeastIn mask place
    → IsFirstSwept mask (scan_order 0 depth true) place
first_swept mask place depth low least = record {
  before = numbers 0 place;
  behind = numbers (place + 1) depth ++ numbers 0 0;
  order = order-split 0 depth (omega arith)
      ∙ ap (λ (xs : List ℕ). xs ++ numbers 0 0) (numbers-at 0 place depth (omega arith) low)
      ∙ append_assoc (numbers 0 place) (place ∷ numbers (place + 1) depth) (numbers 0 0);
  others = all_numbers (λ other. bit_at mask other ≡ 0) 0 place (λ k _ below. least.least k below);
  is = least.is;
}

-- a fact of each place of the rank holds of the one that was kept
pub kept_has : (P : ℕ → Type 0) {mask : ℕ} {rank : List ℕ} {place : ℕ} → IsFirstSwept mask rank place → All P rank
    → P place
kept_has P {place = place} first all = (all_behind P first.before place first.behind (subst (All P) first.order all)).0

-- a fact of each place of two lists holds of each of the first
all_before : (P : ℕ → Type 0) (xs ys : List ℕ) → All P (xs ++ ys) → All P xs
all_before P [] ys h = All-nil P
all_before P (x ∷ xs) ys h = All-cons P x xs (All-head P x (xs ++ ys) h)
    (all_before P xs ys (All-tail P x (xs ++ ys) h))

-- the mask is the cleared set, as it was found
pub mask_found : {i mask place : ℕ} {steps : List WordStep} → IsKeepingSweep i mask place steps → (w : Words)
    → Quiet steps w → mask ≡ w.aside i
mask_found (kept_alone some fits none) w quiet = quiet.1.0
mask_found (kept_one some fits others) w quiet = quiet.1.0

-- the rest of a mask
one_without : (mask place k : ℕ) → 2 ^ place < 2 ^ 64 → k ≢ place → is_one (without mask (2 ^ place)) k ≡ is_one mask k
one_without mask place k fits far = cases (nat_lt k 64) refl
  where
    same : k < 64 → bit_at (without mask (2 ^ place)) k ≡ bit_at mask k
    same low = let less = bit_without mask (2 ^ place) k fits low in let none = bit_at-pow_other place k far in
        omega arith

    cases : (t : Bool) → nat_lt k 64 ≡ t → (t && nat_eq (bit_at (without mask (2 ^ place)) k) 1)
        ≡ (t && nat_eq (bit_at mask k) 1)
    cases false e = refl
    cases true e = ap (λ (x : ℕ). nat_eq x 1) (same (ltb-true k 64 e))

none_without : (mask place : ℕ) → place < 64 → 2 ^ place < 2 ^ 64 → is_one (without mask (2 ^ place)) place ≡ false
none_without mask place low fits = none_of (without mask (2 ^ place)) place
    (let less = bit_without mask (2 ^ place) place fits low in let one = bit_at-pow_same place in omega arith)

-- one bit of a word from which the rest of a mask is removed: the mask's places are free then, but for the one kept
rest_bit : (b : Bool) (x y a m p k : ℕ) → (b ≡ true → y ≡ x) → (b ≡ true → a ≡ m) → m < 2 ^ 64 → p < 64
    → is_clear x p ≡ false
    → is_clear (cond b (without x (without m (2 ^ p))) y) k
    ≡ ((is_clear y k || ((b || false) && is_one a k)) && not (b && nat_eq p k))
rest_bit false x y a m p k same mask fits low taken = sym (and_true (is_clear y k || false) ∙ or_false (is_clear y k))
rest_bit true x y a m p k same mask fits low taken =
    let small : 2 ^ p < 2 ^ 64 = pow_below p 64 low in
    let less : without m (2 ^ p) < 2 ^ 64 = omega (arith, and_le_l m (2 ^ 64 - 1 - 2 ^ p)) in
    without_clear x (without m (2 ^ p)) k less
    ∙ dite (ℕ_discrete k p)
    (λ (here : k ≡ p). let gone : (is_clear x k || is_one (without m (2 ^ p)) k) ≡ false =
    ap (λ (z : ℕ). is_clear x z || is_one (without m (2 ^ p)) z) here
    ∙ ap (λ (z : Bool). z || is_one (without m (2 ^ p)) p) taken ∙ none_without m p low small in
    gone ∙ sym (ap (λ (z : Bool). (is_clear y k || is_one a k) && not z) (eq-eqb p k (sym here))
    ∙ and_false (is_clear y k || is_one a k)))
    (λ (far : k ≢ p).
    ap (λ (z : Bool). is_clear x k || z) (one_without m p k small far)
    ∙ (λ z. is_clear (sym (same refl) z) k || is_one (sym (mask refl) z) k)
    ∙ sym (ap (λ (z : Bool). (is_clear y k || is_one a k) && not z) (ne_eqb p k (λ e. far (sym e)))
    ∙ and_true (is_clear y k || is_one a k)))

-- the same where nothing is left to remove
alone_bit : (b : Bool) (x y a m p k : ℕ) → (b ≡ true → y ≡ x) → (b ≡ true → a ≡ m) → m < 2 ^ 64 → p < 64
    → is_clear x p ≡ false → without m (2 ^ p) ≡ 0
    → is_clear y k ≡ ((is_clear y k || ((b || false) && is_one a k)) && not (b && nat_eq p k))
alone_bit b x y a m p k same mask fits low taken none = kept b same ∙ rest_bit b x y a m p k same mask fits low taken
  where
    zero_there : is_clear (without x (without m (2 ^ p))) k ≡ is_clear x k
    zero_there = ap (λ (n : ℕ). is_clear (without x n) k) none ∙ without_clear x 0 k (omega arith)
        ∙ ap (λ (z : Bool). is_clear x k || z) (none_of 0 k (bit_at-zero k)) ∙ or_false (is_clear x k)

    kept : (b : Bool) → (b ≡ true → y ≡ x) → is_clear y k ≡ is_clear (cond b (without x (without m (2 ^ p))) y) k
    kept true is = ap (λ (n : ℕ). is_clear n k) (is refl) ∙ sym zero_there
    kept false is = refl

-- such a sweep frees what is set aside in its word, and takes the place kept
pub kept_pool : {i mask place : ℕ} {steps : List WordStep} → IsKeepingSweep i mask place steps → (w : Words) → place < 64
    → is_clear (w.word i) place ≡ false → Quiet steps w
    → pool_of (words_after_all steps w) ≡ taken_at i place (freed_in (i ∷ []) (pool_of w))
kept_pool {i = i} {mask = mask} {place = place} (kept_alone {seen = seen} some fits none) w low taken quiet =
    pool_ext (pool_of (words_after_all (LookAside i seen ∷ Swap i mask ∷ Keep i (2 ^ place) ∷ []) w))
    (taken_at i place (freed_in (i ∷ []) (pool_of w)))
    (λ j k. alone_bit (nat_eq j i) (w.word i) (w.word j) (w.aside j) mask place k (λ t. ap w.word (eqb-true j i t))
    (λ t. ap w.aside (eqb-true j i t) ∙ sym quiet.1.0) fits low taken none)
    (λ j k. swap_bit (nat_eq j i) (w.aside j) k)
kept_pool {i = i} {mask = mask} {place = place} (kept_one {seen = seen} {found = found} some fits others) w low taken
    quiet =
    pool_ext (pool_of (words_after_all (LookAside i seen ∷ Swap i mask ∷ Keep i (2 ^ place)
    ∷ Spill i (without mask (2 ^ place)) found ∷ []) w))
    (taken_at i place (freed_in (i ∷ []) (pool_of w)))
    (λ j k. rest_bit (nat_eq j i) (w.word i) (w.word j) (w.aside j) mask place k (λ t. ap w.word (eqb-true j i t))
    (λ t. ap w.aside (eqb-true j i t) ∙ sym quiet.1.0) fits low taken)
    (λ j k. swap_bit (nat_eq j i) (w.aside j) k)

-- the place that was kept was aside
pub kept_aside : {i mask place : ℕ} {rank : List ℕ} {steps : List WordStep} → IsKeepingSweep i mask place steps
    → IsFirstSwept mask rank place → (w : Words) → All (λ b. b < 64) rank → Quiet steps w → IsAside (pool_of w) i place
kept_aside {i = i} {place = place} sweep first w within quiet =
    let one : bit_at (w.aside i) place ≡ 1 = ap (λ (n : ℕ). bit_at n place) (sym (mask_found sweep w quiet)) ∙ first.is in
    ap (λ (b : Bool). b && nat_eq (bit_at (w.aside i) place) 1) (lt-ltb place 64 (kept_has (λ b. b < 64) first within))
    ∙ eq-eqb (bit_at (w.aside i) place) 1 one

-- it is the first place aside, and those before it are busy, where none of the rank is free
pub kept_first : {i mask place : ℕ} {rank : List ℕ} {steps : List WordStep} → IsKeepingSweep i mask place steps
    → IsFirstSwept mask rank place → (w : Words) → All (λ b. b < 64) rank → All (IsSet (pool_of w) i) rank
    → Quiet steps w → IsFirst (IsAside (pool_of w) i) (IsBusy (pool_of w) i) rank place
kept_first {i = i} {mask = mask} {place = place} sweep first w within set quiet = record {
  before = first.before;
  behind = first.behind;
  order = first.order;
  others = λ k d h. let other = get_or first.before k d in
      let clear : bit_at (w.aside i) other ≡ 0 = ap (λ (n : ℕ). bit_at n other) (sym (mask_found sweep w quiet))
      ∙ first.others k d h in
      (λ z. before_set k d h z || none_of (w.aside i) other clear z);
  is = kept_aside sweep first w within quiet;
}
  where
    before_set : All (IsSet (pool_of w) i) first.before
    before_set = all_before (IsSet (pool_of w) i) first.before (place ∷ first.behind)
        (subst (All (IsSet (pool_of w) i)) first.order set)
