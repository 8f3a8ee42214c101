-- The laws of sums and counts over the numbers below a bound.
use Rattle.std.proofs.Common.{◌≡◌, ◌≢◌, ℕ, zero, suc, ◌+◌, ◌*◌, ◌-◌, ◌<◌, ◌≤◌, ◌⊎◌, List, length, get_or, take, sum, sum_by, Bool, true, false, cond, nat_eq, arith, refl, sym, ap, ◌∙◌, inl, inr, eq-eqb, ne_eqb}
use mathlib.Core.Logic.{dite}
use native.Mathlib.Decide.{ℕ_discrete}
use Rattle.std.proofs.Math.Seq.{take-length}
use Rattle.std.proofs.lemmas.List.Sums.{sum_by_more}
use Rattle.sums.specs.Below.{sum_below, one_if, count_below}

-- terms that are all 0
pub sum_below-none : (f : ℕ → ℕ) (n : ℕ) → ((k : ℕ) → k < n → f k ≡ 0) → sum_below f n ≡ 0
sum_below-none f zero none = refl
sum_below-none f (suc n) none = let before = sum_below-none f n (λ k h. none k (omega arith)) in
    let last = none n (omega arith) in omega arith

pub sum_below-zero : (n : ℕ) → sum_below (λ k. 0) n ≡ 0
sum_below-zero n = sum_below-none (λ k. 0) n (λ k h. refl)

-- terms that are the same one by one
pub sum_below-same : (f g : ℕ → ℕ) (n : ℕ) → ((k : ℕ) → k < n → f k ≡ g k) → sum_below f n ≡ sum_below g n
sum_below-same f g zero same = refl
sum_below-same f g (suc n) same = let before = sum_below-same f g n (λ k h. same k (omega arith)) in
    let last = same n (omega arith) in omega arith

-- terms that are sums themselves
pub sum_below-add : (f g e : ℕ → ℕ) (n : ℕ) → ((k : ℕ) → k < n → f k ≡ g k + e k)
    → sum_below f n ≡ sum_below g n + sum_below e n
sum_below-add f g e zero add = refl
sum_below-add f g e (suc n) add = let before = sum_below-add f g e n (λ k h. add k (omega arith)) in
    let last = add n (omega arith) in omega arith

pub sum_below-three : (f a b d : ℕ → ℕ) (n : ℕ) → ((k : ℕ) → f k ≡ a k + b k + d k)
    → sum_below f n ≡ sum_below a n + sum_below b n + sum_below d n
sum_below-three f a b d n add = sum_below-add f (λ k. a k + b k) d n (λ k h. add k)
    ∙ ap (λ (z : ℕ). z + sum_below d n) (sum_below-add (λ k. a k + b k) a b n (λ k h. refl))

-- one term alone is not 0
pub sum_below-only : (f : ℕ → ℕ) (n k : ℕ) → k < n → ((j : ℕ) → j < n → j ≢ k → f j ≡ 0) → sum_below f n ≡ f k
sum_below-only f zero k h others = absurd (omega arith)
sum_below-only f (suc n) k h others = dite (ℕ_discrete k n)
    (λ (e : k ≡ n). let before = sum_below-none f n (λ j l. others j (omega arith) (λ s. omega arith)) in
    let last : f n ≡ f k = ap f (sym e) in omega arith)
    (λ (ne : k ≢ n). let before = sum_below-only f n k (omega arith) (λ j l. others j (omega arith)) in
    let last = others n (omega arith) (λ s. ne (sym s)) in omega arith)

-- the first a terms, and the w after them
pub sum_below-split : (f : ℕ → ℕ) (a w : ℕ) → sum_below f (a + w) ≡ sum_below f a + sum_below (λ k. f (a + k)) w
sum_below-split f a zero = (let e : a + 0 ≡ a = omega arith in ap (sum_below f) e) ∙ omega arith
sum_below-split f a (suc w) = let before = sum_below-split f a w in
    (let e : a + suc w ≡ suc (a + w) = omega arith in ap (sum_below f) e) ∙ omega arith

-- the first term, and those after it
pub sum_below-first : (f : ℕ → ℕ) (n : ℕ) → sum_below f (suc n) ≡ f 0 + sum_below (λ k. f (suc k)) n
sum_below-first f zero = omega arith
sum_below-first f (suc n) = let before = sum_below-first f n in omega arith

-- only a window of terms is not 0
pub sum_below-window : (f : ℕ → ℕ) (n a w : ℕ) → a + w ≤ n → ((k : ℕ) → k < n → (k < a) ⊎ (a + w ≤ k) → f k ≡ 0)
    → sum_below f n ≡ sum_below (λ k. f (a + k)) w
sum_below-window f n a w fits others =
    let r : ℕ = n - (a + w) in let e : n ≡ a + w + r = omega arith in
    let before = sum_below-none f a (λ k h. others k (omega arith) (inl h)) in
    let after = sum_below-none (λ k. f (a + w + k)) r (λ k h. others (a + w + k) (omega arith) (inr (omega arith))) in
    let whole = sum_below-split f (a + w) r in let front = sum_below-split f a w in ap (sum_below f) e ∙ omega arith

-- rows and columns may be summed in either order
pub sum_below-swap : (f : ℕ → ℕ → ℕ) (m n : ℕ)
    → sum_below (λ j. sum_below (λ k. f k j) n) m ≡ sum_below (λ k. sum_below (f k) m) n
sum_below-swap f zero n = sym (sum_below-none (λ k. sum_below (f k) zero) n (λ k h. refl))
sum_below-swap f (suc m) n =
    let before = sum_below-swap f m n in
    let last = sum_below-add (λ k. sum_below (f k) (suc m)) (λ k. sum_below (f k) m) (λ k. f k m) n (λ k h. refl) in
    omega arith

-- a sum of no greater terms
pub sum_below-le : (f g : ℕ → ℕ) (n : ℕ) → ((k : ℕ) → k < n → f k ≤ g k) → sum_below f n ≤ sum_below g n
sum_below-le f g zero le = omega arith
sum_below-le f g (suc n) le = let before = sum_below-le f g n (λ k h. le k (omega arith)) in
    let last = le n (omega arith) in omega arith

pub one_if-le : (test : Bool) → one_if test ≤ 1
one_if-le true = omega arith
one_if-le false = omega arith

-- a bit is 1 or 0
pub one_if-bit : (x : ℕ) → x < 2 → one_if (nat_eq x 1) ≡ x
one_if-bit zero h = refl
one_if-bit (suc zero) h = refl
one_if-bit (suc (suc x)) h = absurd (omega arith)

-- a sum of terms that are each at most m
pub sum_below-bound : (f : ℕ → ℕ) (n m : ℕ) → ((k : ℕ) → k < n → f k ≤ m) → sum_below f n ≤ n * m
sum_below-bound f zero m h = omega arith
sum_below-bound f (suc n) m h = let before = sum_below-bound f n m (λ k h2. h k (omega arith)) in
    let last = h n (omega arith) in omega arith

pub count_below-le : (test : ℕ → Bool) (n : ℕ) → count_below test n ≤ n
count_below-le test n = let most = sum_below-bound (λ k. one_if (test k)) n 1 (λ k h. one_if-le (test k)) in omega arith

-- tests that agree count the same
pub count_below-same : (f g : ℕ → Bool) (n : ℕ) → ((k : ℕ) → k < n → f k ≡ g k) → count_below f n ≡ count_below g n
count_below-same f g n same = sum_below-same (λ k. one_if (f k)) (λ k. one_if (g k)) n (λ k h. ap one_if (same k h))

-- a term is within the sum
pub le-sum_below : (f : ℕ → ℕ) (n k : ℕ) → k < n → f k ≤ sum_below f n
le-sum_below f zero k h = absurd (omega arith)
le-sum_below f (suc n) k h = dite (ℕ_discrete k n)
    (λ (e : k ≡ n). let same : f k ≡ f n = ap f e in omega arith)
    (λ (ne : k ≢ n). let before = le-sum_below f n k (omega arith) in omega arith)

-- the sum of a list by its indexes
pub sum_by-below : {X : Type 0} (f : X → ℕ) (xs : List X) (d : X)
    → sum_by f xs ≡ sum_below (λ k. f (get_or xs k d)) (length xs)
sum_by-below {X} f xs d = ap (sum_by f) (sym (take-length xs)) ∙ up_to (length xs) (omega arith)
  where
    up_to : (n : ℕ) → n ≤ length xs → sum_by f (take n xs) ≡ sum_below (λ k. f (get_or xs k d)) n
    up_to zero h = refl
    up_to (suc n) h =
        let before = up_to n (omega arith) in let more = sum_by_more f xs n d (omega arith) in
        (let e : suc n ≡ n + 1 = omega arith in ap (λ (k : ℕ). sum_by f (take k xs)) e) ∙ more
        ∙ ap (λ (z : ℕ). z + f (get_or xs n d)) before

pub sum-below : (xs : List ℕ) → sum xs ≡ sum_below (λ k. get_or xs k 0) (length xs)
sum-below xs = sum_by-below (λ x. x) xs 0

-- one term grows
pub sum_below-more : (f g : ℕ → ℕ) (here more n : ℕ) → here < n → g here ≡ more + f here
    → ((k : ℕ) → k ≢ here → g k ≡ f k) → sum_below g n ≡ more + sum_below f n
sum_below-more f g here more zero h grows others = absurd (omega arith)
sum_below-more f g here more (suc n) h grows others = dite (ℕ_discrete here n)
    (λ (e : here ≡ n). let before = sum_below-same g f n (λ k l. others k (λ s. omega arith)) in
    let last = ap g (sym e) ∙ grows ∙ ap (λ (k : ℕ). more + f k) e in omega arith)
    (λ (ne : here ≢ n). let before = sum_below-more f g here more n (omega arith) grows others in
    let last = others n (λ s. ne (sym s)) in omega arith)

-- the same terms in another order
pub sum_below-turned : (f place number : ℕ → ℕ) (m n : ℕ)
    → ((i : ℕ) → i < m → (number i < n) × (place (number i) ≡ i))
    → ((c : ℕ) → c < n → (i : ℕ) × (i < m) × (number i ≡ c)) → sum_below (λ i. f (number i)) m ≡ sum_below f n
sum_below-turned f place number m n one all =
    let F : ℕ → ℕ → ℕ = λ c i. cond (nat_eq (number i) c) (f c) 0 in
    let hit : (c i : ℕ) → number i ≡ c
    → F c i ≡ f c = (λ c i e. ap (λ (b : Bool). cond b (f c) 0) (eq-eqb (number i) c e)) in
    let miss : (c i : ℕ) → number i ≢ c
    → F c i ≡ 0 = (λ c i e. ap (λ (b : Bool). cond b (f c) 0) (ne_eqb (number i) c e)) in
    sum_below-same (λ i. f (number i)) (λ i. sum_below (λ c. F c i) n) m
    (λ i l. sym (sum_below-only (λ c. F c i) n (number i) (one i l).0 (λ c k ne. miss c i (λ z. ne (sym z)))
    ∙ hit (number i) i refl))
    ∙ sum_below-swap F m n
    ∙ sum_below-same (λ c. sum_below (F c) m) f n (λ c k. let w = all c k in
    sum_below-only (F c) m w.0 w.1
    (λ i l ne. miss c i (λ z. ne (sym (one i l).1 ∙ ap place (z ∙ sym w.2) ∙ (one w.0 w.1).1))) ∙ hit c w.0 w.2)
