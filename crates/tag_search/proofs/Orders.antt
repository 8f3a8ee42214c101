-- Consecutive numbers: the parts of a list of them, and facts of each.
use Rattle.tag_search.proofs.Uses.{[], All, All-append, All-cons, All-nil, ap, arith, left_of_scan, length, length-append, List, min, numbers, numbers_from, refl, scan_order, suc, sym, zero, ℕ, ◌∙◌}
use Rattle.std.proofs.Common.{append_assoc}
use Rattle.std.specs.Prelude.{Bool, true, false, ◌++◌, ◌+◌, ◌-◌, ◌<◌, ◌∷◌, ◌≡◌, ◌≤◌}

-- a list whose end is not above its start is empty
pub numbers-none : (a b : ℕ) → b ≤ a → numbers a b ≡ []
numbers-none a b h = let e : b - a ≡ 0 = omega arith in ap (numbers_from a) e

-- the first number, and those after it
pub numbers-cons : (a b : ℕ) → a < b → numbers a b ≡ a ∷ numbers (a + 1) b
numbers-cons a b h = let e : b - a ≡ suc (b - (a + 1)) = omega arith in ap (numbers_from a) e

-- m + n numbers are m numbers followed by n more
numbers_from-add : (a m n : ℕ) → numbers_from a (m + n) ≡ numbers_from a m ++ numbers_from (a + m) n
numbers_from-add a zero n =
    let e : zero + n ≡ n = omega arith in let e' : a ≡ a + zero = omega arith in
    ap (numbers_from a) e ∙ ap (λ (x : ℕ). numbers_from x n) e'
numbers_from-add a (suc m) n =
    let e : suc m + n ≡ suc (m + n) = omega arith in let e' : a + 1 + m ≡ a + suc m = omega arith in
    let rest = numbers_from-add (a + 1) m n in
    ap (numbers_from a) e ∙ ap (λ (xs : List ℕ). a ∷ xs)
    (rest ∙ ap (λ (x : ℕ). numbers_from (a + 1) m ++ numbers_from x n) e')

-- the numbers before one, and those from it on
pub numbers-split : (a b c : ℕ) → a ≤ b → b ≤ c → numbers a c ≡ numbers a b ++ numbers b c
numbers-split a b c h k =
    let e : c - a ≡ (b - a) + (c - b) = omega arith in let e' : a + (b - a) ≡ b = omega arith in
    ap (numbers_from a) e ∙ numbers_from-add a (b - a) (c - b)
    ∙ ap (λ (x : ℕ). numbers a b ++ numbers_from x (c - b)) e'

-- the numbers before one, that one, and those after it
pub numbers-at : (a b c : ℕ) → a ≤ b → b < c → numbers a c ≡ numbers a b ++ b ∷ numbers (b + 1) c
numbers-at a b c h k = numbers-split a b c h (omega arith) ∙ ap (λ (xs : List ℕ). numbers a b ++ xs)
    (numbers-cons b c k)

-- a fact of n consecutive numbers holds of each in their list
pub all_from : (P : ℕ → Type 0) (a n : ℕ) → ((k : ℕ) → a ≤ k → k < a + n → P k) → All P (numbers_from a n)
all_from P a zero h = All-nil P
all_from P a (suc n) h = All-cons P a (numbers_from (a + 1) n) (h a (omega arith) (omega arith))
    (all_from P (a + 1) n (λ k l m. h k (omega arith) (omega arith)))

-- a fact of each number in the range holds of each in the list
pub all_numbers : (P : ℕ → Type 0) (a b : ℕ) → ((k : ℕ) → a ≤ k → k < b → P k) → All P (numbers a b)
all_numbers P a b h = all_from P a (b - a) (λ k l m. h k l (omega arith))

length_from : (a n : ℕ) → length (numbers_from a n) ≡ n
length_from a zero = refl
length_from a (suc n) = ap suc (length_from (a + 1) n)

pub length-numbers : (a b : ℕ) → length (numbers a b) ≡ b - a
length-numbers a b = length_from a (b - a)

-- a scan of all numbers from the first on, and then those before it
pub order-split : (first count : ℕ) → first ≤ count → scan_order first count true ≡ numbers first count
    ++ numbers 0 first
order-split first count h = let e : min first count ≡ first = omega arith in
    ap (λ (end : ℕ). numbers first count ++ numbers 0 end) e

-- a scan begins with all of it left
pub scan-begun : (count start : ℕ) → scan_order start count true ≡ left_of_scan count start 0
scan-begun count start =
    let e : start ≡ start + 0 = omega arith in let e' : 0 ≡ 0 - (count - start) = omega arith in
    ap (λ (x : ℕ). numbers x count ++ numbers 0 (min start count)) e
    ∙ ap (λ (x : ℕ). numbers (start + 0) count ++ numbers x (min start count)) e'

-- the next of a scan, from the start on
pub scan-next : (count start tried : ℕ) → tried < count - start
    → left_of_scan count start tried ≡ (start + tried) ∷ left_of_scan count start (tried + 1)
scan-next count start tried low =
    let e : start + tried + 1 ≡ start + (tried + 1) = omega arith in
    let e' : tried - (count - start) ≡ tried + 1 - (count - start) = omega arith in
    ap (λ (xs : List ℕ). xs ++ numbers (tried - (count - start)) (min start count))
    (numbers-cons (start + tried) count (omega arith))
    ∙ ap (λ (x : ℕ × ℕ). (start + tried) ∷ (numbers x.0 count ++ numbers x.1 (min start count))) (λ z. (e z, e' z))

-- the next of a scan, before the start
pub scan-next-before : (count start tried : ℕ) → start ≤ count → count - start ≤ tried → tried < count
    → left_of_scan count start tried ≡ (tried - (count - start)) ∷ left_of_scan count start (tried + 1)
scan-next-before count start tried h k low =
    let at : ℕ = tried - (count - start) in let end : ℕ = min start count in
    let e : at + 1 ≡ tried + 1 - (count - start) = omega arith in
    ap (λ (xs : List ℕ). xs ++ numbers at end) (numbers-none (start + tried) count (omega arith))
    ∙ numbers-cons at end (omega arith) ∙ ap (λ (x : ℕ). at ∷ numbers x end) e
    ∙ ap (λ (xs : List ℕ). at ∷ (xs ++ numbers (tried + 1 - (count - start)) end))
    (sym (numbers-none (start + (tried + 1)) count (omega arith)))

-- nothing is left of a scan of all numbers
pub scan-over : (count start tried : ℕ) → count ≤ tried → left_of_scan count start tried ≡ []
scan-over count start tried h =
    ap (λ (xs : List ℕ). xs ++ numbers (tried - (count - start)) (min start count))
    (numbers-none (start + tried) count (omega arith))
    ∙ numbers-none (tried - (count - start)) (min start count) (omega arith)

-- a scan has no place twice, so at most as many as its limit
pub length-scan_order : (start limit : ℕ) (wrap : Bool) → length (scan_order start limit wrap) ≤ limit
length-scan_order start limit true =
    let e = length-append (numbers start limit) (numbers 0 (min start limit)) in
    let a = length-numbers start limit in let b = length-numbers 0 (min start limit) in omega arith
length-scan_order start limit false =
    let e = length-append {A = ℕ} (numbers start limit) [] in let a = length-numbers start limit in omega arith

-- a fact of each place below the limit holds of each place of a scan
pub all_scan : (P : ℕ → Type 0) (start limit : ℕ) (wrap : Bool) → ((k : ℕ) → k < limit → P k)
    → All P (scan_order start limit wrap)
all_scan P start limit true h =
    All-append P (numbers start limit) (numbers 0 (min start limit)) (all_numbers P start limit (λ k _ l. h k l))
    (all_numbers P 0 (min start limit) (λ k _ l. h k (omega arith)))
all_scan P start limit false h = All-append P (numbers start limit) [] (all_numbers P start limit (λ k _ l. h k l))
    (All-nil P)

-- one more number at the end
pub numbers-push : (a b : ℕ) → a ≤ b → numbers a (b + 1) ≡ numbers a b ++ b ∷ []
numbers-push a b h = numbers-at a b (b + 1) h (omega arith) ∙ ap (λ (xs : List ℕ). numbers a b ++ b ∷ xs)
    (numbers-none (b + 1) (b + 1) (omega arith))

-- the same, for numbers below a limit
pub numbers_more : (a b limit : ℕ) → a ≤ b → b < limit → numbers a (min b limit) ++ b ∷ [] ≡ numbers a
    (min (b + 1) limit)
numbers_more a b limit h k =
    let here : min b limit ≡ b = omega arith in let next : b + 1 ≡ min (b + 1) limit = omega arith in
    ap (λ (x : ℕ). numbers a x ++ b ∷ []) here ∙ sym (numbers-push a b h) ∙ ap (numbers a) next

-- the same, after other numbers
pub numbers_behind : (xs : List ℕ) (b : ℕ) → (xs ++ numbers 0 b) ++ b ∷ [] ≡ xs ++ numbers 0 (b + 1)
numbers_behind xs b = append_assoc xs (numbers 0 b) (b ∷ [])
    ∙ ap (λ (ys : List ℕ). xs ++ ys) (sym (numbers-push 0 b (omega arith)))
