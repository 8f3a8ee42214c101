-- Sums over the words of a list, in the order in which a search visits them.
use Rattle.std.specs.Prelude.{◌*◌, ◌+◌, ◌-◌, ◌∷◌, ◌≡◌, ◌≤◌}
use Rattle.tag_search.proofs.Uses.{[], ap, arith, Bool, cond, dite, false, Layout, List, nat_eq, ne_eqb, numbers, numbers_from, refl, suc, true, word_depth, word_depths-sum, words, zero, ℕ, ℕ_discrete, ◌∙◌}
use Rattle.sums.specs.Below.{sum_below}

-- the sum of f over a list
abbrev pub tally : (ℕ → ℕ) → List ℕ → ℕ
tally f [] = 0
tally f (x ∷ xs) = f x + tally f xs

tally-from : (f : ℕ → ℕ) (a n : ℕ) → sum_below f a + tally f (numbers_from a n) ≡ sum_below f (a + n)
tally-from f a zero = (let e : a ≡ a + zero = omega arith in
    let s : sum_below f a ≡ sum_below f (a + zero) = ap (sum_below f) e in omega arith)
tally-from f a (suc n) =
    let e : a + 1 + n ≡ a + suc n = omega arith in
    let s : sum_below f (a + 1 + n) ≡ sum_below f (a + suc n) = ap (sum_below f) e in
    let e' : a + 1 ≡ suc a = omega arith in let t : sum_below f (a + 1) ≡ sum_below f a + f a = ap (sum_below f) e' in
    let rest = tally-from f (a + 1) n in omega arith

-- the words from one on, and those before it, are all words
pub tally-around : (f : ℕ → ℕ) (first n : ℕ) → first ≤ n → tally f (numbers first n) + tally f (numbers 0 first)
    ≡ sum_below f n
tally-around f first n h =
    let e : first + (n - first) ≡ n = omega arith in
    let whole : sum_below f (first + (n - first)) ≡ sum_below f n = ap (sum_below f) e in
    let back = tally-from f first (n - first) in
    let e' : 0 + (first - 0) ≡ first = omega arith in
    let low : sum_below f (0 + (first - 0)) ≡ sum_below f first = ap (sum_below f) e' in
    let front = tally-from f 0 (first - 0) in omega arith

-- the sum of twice a number and five
pub sum_below-twice : (f : ℕ → ℕ) (n : ℕ) → sum_below (λ i. 2 * f i + 5) n ≡ 2 * sum_below f n + 5 * n
sum_below-twice f zero = refl
sum_below-twice f (suc n) = let before = sum_below-twice f n in omega arith

-- the sum of twice the depth of each word and five
pub steps-sum : (l : Layout) → sum_below (λ i. 2 * word_depth l i + 5) (words l) ≡ 2 * l.depth + 5 * words l
steps-sum l = sum_below-twice (word_depth l) (words l) ∙ ap (λ (d : ℕ). 2 * d + 5 * words l) (word_depths-sum l)

cond-le : (b : Bool) (c : ℕ) → cond b c 0 ≤ c
cond-le true c = omega arith
cond-le false c = omega arith

-- an addend at one index that is not below the bound
sum_below-apart : (g : ℕ → ℕ) (c at n : ℕ) → n ≤ at
    → sum_below (λ i. g i + cond (nat_eq i at) c 0) n ≡ sum_below g n
sum_below-apart g c at zero h = refl
sum_below-apart g c at (suc n) h =
    let before = sum_below-apart g c at n (omega arith) in
    let none : cond (nat_eq n at) c 0 ≡ 0 = ap (λ (b : Bool). cond b c 0) (ne_eqb n at (λ e. omega arith)) in
    omega arith

-- an addend at one index counts once
pub sum_below-once : (g : ℕ → ℕ) (c at n : ℕ)
    → sum_below (λ i. g i + cond (nat_eq i at) c 0) n ≤ sum_below g n + c
sum_below-once g c at zero = omega arith
sum_below-once g c at (suc n) = dite (ℕ_discrete n at)
    (λ e. let before = sum_below-apart g c at n (omega arith) in let most = cond-le (nat_eq n at) c in omega arith)
    (λ ne. let before = sum_below-once g c at n in
    let none : cond (nat_eq n at) c 0 ≡ 0 = ap (λ (b : Bool). cond b c 0) (ne_eqb n at ne) in omega arith)
