-- The rule of the line serves each number once, in turn.
use Rattle.std.proofs.Common.{◌&&◌, ◌++◌, ◌+◌, ◌<◌, ◌==◌, ◌≤◌, ◌∙◌, ◌∷◌, ◌≡◌, ◌≢◌}
use Rattle.std.proofs.Common.{[], add-zero, ap, arith, Bool, cond, false, length, List, refl, subst, suc, sym, true, ℕ, ⊎_elim}
use Rattle.std.proofs.lemmas.List.Sums.{sum_by-append, sum_by-cons}
use Rattle.std.proofs.lemmas.Bool.{cases_lt, ne_eqb}
use Rattle.std.proofs.lemmas.Bool.Decides.{eqb_tells}
use Rattle.std.proofs.Math.Dec.{eqb}
use Rattle.std.specs.List.{enumerate_from}
use Rattle.posted_queue.specs.Line.{AreInTurn, times_at, times_in, times_popped, times_pushed}
use Rattle.posted_queue.specs.Turns.{AreServed}
use Rattle.posted_queue.specs.declared.line.Track.{Track}

-- what one entry adds to how often the number stands at the place
abbrev one : ℕ → ℕ → ℕ → ℕ → ℕ
one at x place number = cond ((at == place) && (x == number)) 1 0

abbrev counted : Bool → ℕ
counted b = cond b 1 0

few : (b : Bool) → counted b ≤ 1
few true = omega arith
few false = omega arith

elsewhere : (at x place number : ℕ) → at ≢ place → one at x place number ≡ 0
elsewhere at x place number apart =
    ap (λ (b : Bool). counted (b && (x == number))) (ne_eqb at place apart)

-- the first entry and the rest
split : (n x : ℕ) (xs : List ℕ) (place number : ℕ) → times_in (enumerate_from n (x ∷ xs)) place number
    ≡ one n x place number + times_in (enumerate_from (n + 1) xs) place number
split n x xs place number =
    sum_by-cons (λ (e : ℕ × ℕ). one e.0 e.1 place number) (n, x) (enumerate_from (n + 1) xs)

none : (a b c : ℕ) → a ≡ b + c → b ≡ 0 → c ≡ 0 → a ≡ 0
none a b c s l h = omega arith

rest_alone : (a b c : ℕ) → a ≡ b + c → b ≡ 0 → c ≤ 1 → a ≤ 1
rest_alone a b c s l h = omega arith

first_alone : (a b c : ℕ) → a ≡ b + c → b ≤ 1 → c ≡ 0 → a ≤ 1
first_alone a b c s l h = omega arith

-- nothing stands before the first place
before : (n : ℕ) (xs : List ℕ) (place number : ℕ) → place < n → times_in (enumerate_from n xs) place number ≡ 0
before n [] place number low = refl
before n (x ∷ xs) place number low = none _ _ _ (split n x xs place number)
    (elsewhere n x place number (λ same. absurd (omega (arith, same, low))))
    (before (n + 1) xs place number (omega (arith, low)))

-- nothing stands past the last place
past : (n : ℕ) (xs : List ℕ) (place number : ℕ) → n + length xs ≤ place → times_in (enumerate_from n xs) place number ≡ 0
past n [] place number high = refl
past n (x ∷ xs) place number high = none _ _ _ (split n x xs place number)
    (elsewhere n x place number (λ same. absurd (omega (arith, same, high))))
    (past (n + 1) xs place number (omega (arith, high)))

-- a place has one number at most
single : (n : ℕ) (xs : List ℕ) (place number : ℕ) → times_in (enumerate_from n xs) place number ≤ 1
single n [] place number = omega arith
single n (x ∷ xs) place number = ⊎_elim
    (λ (is : (eqb n place ≡ true) × (n ≡ place)). first_alone _ _ _ (split n x xs place number)
    (few ((n == place) && (x == number))) (before (n + 1) xs place number (omega (arith, is.1))))
    (λ (no : (eqb n place ≡ false) × (n ≢ place)). rest_alone _ _ _ (split n x xs place number)
    (elsewhere n x place number no.1) (single (n + 1) xs place number))
    (eqb_tells n place)

-- the numbers of two lists, one behind the other
joined : (n : ℕ) (xs ys : List ℕ) → enumerate_from n (xs ++ ys) ≡ enumerate_from n xs ++ enumerate_from (n + length xs) ys
joined n [] ys = ap (λ (k : ℕ). enumerate_from k ys) (sym (add-zero n))
joined n (x ∷ xs) ys =
    let same : n + 1 + length xs ≡ n + length (x ∷ xs) = omega arith in
    ap (λ l. (n, x) ∷ l) (joined (n + 1) xs ys ∙ ap (λ (k : ℕ). enumerate_from (n + 1) xs ++ enumerate_from k ys) same)

both : (served waiting : List ℕ) (place number : ℕ) → times_at (served ++ waiting) place number
    ≡ times_at served place number + times_in (enumerate_from (0 + length served) waiting) place number
both served waiting place number = ap (λ entries. times_in entries place number) (joined 0 served waiting)
    ∙ sum_by-append (λ (e : ℕ × ℕ). one e.0 e.1 place number) (enumerate_from 0 served)
    (enumerate_from (0 + length served) waiting)

at_most : (p q a b c : ℕ) → p ≡ a → q ≡ b → a ≡ b + c → q ≤ p
at_most p q a b c x y s = omega arith

as_many : (p q a b c : ℕ) → p ≡ a → q ≡ b → a ≡ b + c → c ≡ 0 → q ≡ p
as_many p q a b c x y s z = omega arith

-- whoever stands among those served stands below their count
below : (served : List ℕ) (place number q : ℕ) → q ≡ times_at served place number → 1 ≤ q → place < length served
below served place number q same some = ⊎_elim
    (λ (in' : suc place ≤ length served). in')
    (λ (high : length served ≤ place). absurd (omega (arith, same, some, past 0 served place number (omega (arith, high)))))
    (cases_lt place (length served))

pub serves : (waiting : List ℕ) (tracks : List Track) → AreInTurn waiting tracks → AreServed tracks
serves waiting tracks h = record {
  once = λ place number. subst (λ (n : ℕ). n ≤ 1) (sym (h.pushed place number))
      (single 0 (h.served ++ waiting) place number);
  pushed = λ place number. at_most (times_pushed tracks place number) (times_popped tracks place number)
      _ (times_at h.served place number) _ (h.pushed place number) (h.popped place number)
      (both h.served waiting place number);
  in_turn = λ place number earlier other some low. as_many (times_pushed tracks earlier other)
      (times_popped tracks earlier other) _ (times_at h.served earlier other) _ (h.pushed earlier other)
      (h.popped earlier other) (both h.served waiting earlier other)
      (before (0 + length h.served) waiting earlier other
      (omega (arith, low, below h.served place number (times_popped tracks place number) (h.popped place number) some)));
}
