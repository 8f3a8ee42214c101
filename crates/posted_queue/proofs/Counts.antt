-- Sums over hands after a change of one, and counts of entries.
use Rattle.std.proofs.Common.{◌&&◌, ◌+◌, ◌<◌, ◌==◌, ◌∷◌, ◌≡◌}
use Rattle.std.proofs.Common.{[], ap, arith, cond, get_or, length, List, set, subst, suc, sum_by, sym, zero, ℕ}
use Rattle.std.proofs.lemmas.List.Sums.{sum_by-cons, sum_by-set}
use mathlib.Core.Option.{some, some-injective, some-ne-none}
use lib.ListN.{get_elem?}
use Rattle.posted_queue.specs.Line.{times_in}

pub there : {V : Type 0} (hands : List V) (i : ℕ) (v : V) → get_elem? hands i ≡ some v
    → (i < length hands) × (get_or hands i v ≡ v)
there [] i v at = absurd (some-ne-none v (sym at))
there (x ∷ xs) zero v at = (omega arith, some-injective x v at)
there (x ∷ xs) (suc i) v at = let rest = there xs i v at in (omega (arith, rest.0), rest.1)

-- a sum over all hands after a change of one
pub changed : {V : Type 0} (f : V → ℕ) (hands : List V) (i : ℕ) (v w : V) → get_elem? hands i ≡ some v
    → sum_by f (set hands i w) + f v ≡ sum_by f hands + f w
changed f hands i v w at =
    let here = there hands i v at in
    subst (λ n. sum_by f (set hands i w) + n ≡ sum_by f hands + f w) (ap f here.1)
    (sum_by-set f hands i w v here.0)

-- what one entry more adds to how often the number stands at the place
abbrev pub one : ℕ × ℕ → ℕ → ℕ → ℕ
one entry place number = cond ((entry.0 == place) && (entry.1 == number)) 1 0

pub longer : (entry : ℕ × ℕ) (entries : List (ℕ × ℕ)) (place number : ℕ)
    → times_in (entry ∷ entries) place number ≡ one entry place number + times_in entries place number
longer entry entries place number = sum_by-cons (λ (e : ℕ × ℕ). one e place number) entry entries

pub more : (p p' t t' before after new : ℕ) → p' + before ≡ p + after → after ≡ new + before → t' ≡ t + new → p ≡ t → p' ≡ t'
more p p' t t' before after new s m l h = omega arith

pub as_many : (p p' t t' same : ℕ) → p' + same ≡ p + same → t' ≡ t → p ≡ t → p' ≡ t'
as_many p p' t t' same s l h = omega arith

pub none_more : (p p' t : ℕ) → p' ≡ p + 0 → p ≡ t → p' ≡ t
none_more p p' t s h = omega arith
