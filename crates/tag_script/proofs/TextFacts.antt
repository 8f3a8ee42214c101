-- Texts that are appended part by part, and lists of the numbers below a bound.
use Rattle.tag_script.proofs.Uses.{[], ap, append-nil, append_assoc, arith, Bool, cond, false, filter, List, map, map-append, range, suc, true, zero, ℕ, ◌∙◌}
use Rattle.std.proofs.Common.{◌≡◌, ◌+◌, ◌<◌, ◌∷◌, ◌++◌}
use Rattle.std.proofs.lemmas.List.Elements.{filter-append}

-- two parts appended one after the other
pub after : (old between new first second : List ℕ) → between ≡ old ++ first → new ≡ between ++ second → new ≡ old
    ++ (first ++ second)
after old between new first second one two = two ∙ ap (λ t. t ++ second) one ∙ append_assoc old first second

-- one more number
pub range-next : (n : ℕ) → range (n + 1) ≡ range n ++ n ∷ []
range-next n = let e : n + 1 ≡ suc n = omega arith in ap range e

pub map_range-next : (f : ℕ → ℕ) (n : ℕ) → map f (range (n + 1)) ≡ map f (range n) ++ f n ∷ []
map_range-next f n = ap (map f) (range-next n) ∙ map-append f (range n) (n ∷ [])

pub filter_range-next : (test : ℕ → Bool) (n : ℕ) → filter test (range (n + 1)) ≡ filter test (range n)
    ++ cond (test n) (n ∷ []) []
filter_range-next test n = ap (filter test) (range-next n) ∙ filter-append test (range n) (n ∷ [])

-- the next number is appended if it passes the test
pub filter_range-pass : (test : ℕ → Bool) (n : ℕ) → test n ≡ true → filter test (range (n + 1)) ≡ filter test (range n)
    ++ n ∷ []
filter_range-pass test n e = filter_range-next test n ∙ ap (λ (b : Bool). filter test (range n) ++ cond b (n ∷ []) []) e

pub filter_range-fail : (test : ℕ → Bool) (n : ℕ) → test n ≡ false → filter test (range (n + 1)) ≡ filter test (range n)
filter_range-fail test n e =
    filter_range-next test n ∙ ap (λ (b : Bool). filter test (range n) ++ cond b (n ∷ []) []) e
    ∙ append-nil (filter test (range n))

-- numbers of which none passes add nothing
pub filter_range-none : (test : ℕ → Bool) (n count : ℕ) → ((k : ℕ) → k < count → test (n + k) ≡ false)
    → filter test (range (n + count)) ≡ filter test (range n)
filter_range-none test n zero none =
    let same : n + 0 ≡ n = omega arith in ap (λ (m : ℕ). filter test (range m)) same
filter_range-none test n (suc count) none =
    let last : n + suc count ≡ n + count + 1 = omega arith in
    ap (λ (m : ℕ). filter test (range m)) last ∙ filter_range-fail test (n + count) (none count (omega arith))
    ∙ filter_range-none test n count (λ k less. none k (omega arith))
