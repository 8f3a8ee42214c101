-- Sums over lists that grow.
use Rattle.std.specs.Prelude.{◌+◌, ◌<◌, ◌∷◌, ◌≡◌}
use Rattle.tag_core.proofs.Uses.{[], ap, arith, get_or, length, List, suc, take, total_of, zero, ℕ, ◌∙◌}

-- the total of one element more
pub total_of-next : (f : ℕ → ℕ) (xs : List ℕ) (i : ℕ) → i < length xs
    → total_of f (take (i + 1) xs) ≡ total_of f (take i xs) + f (get_or xs i 0)
total_of-next f [] i h = absurd (omega arith)
total_of-next f (x ∷ xs) zero h = omega arith
total_of-next f (x ∷ xs) (suc i) h =
    let next : suc i + 1 ≡ suc (i + 1) = omega arith in
    let e = total_of-next f xs i (omega arith) in ap (λ (z : ℕ). total_of f (take z (x ∷ xs))) next
    ∙ (let z : f x + total_of f (take (i + 1) xs) ≡ f x + total_of f (take i xs) + f (get_or xs i 0) = omega arith in z)
