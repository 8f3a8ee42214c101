-- Hands that have the numbers of others, in the same order.
use Rattle.std.proofs.Common.{[], ap, List, map, refl, subst, suc, sym, zero, ℕ, ◌∙◌, ◌∷◌, ◌≡◌}
use mathlib.Core.Option.{some, some-injective, some-ne-none}
use lib.ListN.{get_elem?}

mapped : {A : Type 0} (f : A → ℕ) (xs : List A) (n : ℕ) (x : A) → get_elem? xs n ≡ some x
    → get_elem? (map f xs) n ≡ some (f x)
mapped f [] n x at = absurd (some-ne-none x (sym at))
mapped {A} f (y ∷ xs) zero x at = ap (λ (z : A). some (f z)) (some-injective y x at)
mapped f (y ∷ xs) (suc n) x at = mapped f xs n x at

unmapped : {A : Type 0} (f : A → ℕ) (xs : List A) (n m : ℕ) → get_elem? (map f xs) n ≡ some m
    → (x : A) × (get_elem? xs n ≡ some x) × (f x ≡ m)
unmapped f [] n m at = absurd (some-ne-none m (sym at))
unmapped f (x ∷ xs) zero m at = (x, refl, some-injective (f x) m at)
unmapped f (x ∷ xs) (suc n) m at = unmapped f xs n m at

pub ordered : {A B : Type 0} (f : A → ℕ) (g : B → ℕ) (xs : List A) (ys : List B) → map f xs ≡ map g ys
    → ((n : ℕ) (y : B) → get_elem? ys n ≡ some y → g y ≡ n) → (n : ℕ) (x : A) → get_elem? xs n ≡ some x → f x ≡ n
ordered f g xs ys same at_place n x at =
    let found = unmapped g ys n (f x) (subst (λ (l : List ℕ). get_elem? l n ≡ some (f x)) same (mapped f xs n x at)) in
    sym found.2 ∙ at_place n found.0 found.1
