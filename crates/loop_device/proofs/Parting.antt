-- Where a list that ends in an element is parted.
use Rattle.std.proofs.Common.{◌≡◌, ◌⊎◌, inl, inr, ⊎_elim, List, [], ◌∷◌, ◌++◌, length, drop, get_or, refl, ap, arith, length-append}

-- where a list that ends in d is parted at e, that is d, or e stands before it
pub parted : {A : Type 0} (h : List A) (d : A) (before : List A) (e : A) (after : List A)
    → h ++ d ∷ [] ≡ before ++ e ∷ after
    → ((h ≡ before) × (d ≡ e)) ⊎ ((rest : List A) × (h ≡ before ++ e ∷ rest))
parted [] d [] e after p = inl (refl, ap (λ l. get_or l 0 d) p)
parted [] d (b ∷ bs) e after p = let q = ap length p in absurd (omega (arith, length-append bs (e ∷ after), q))
parted (x ∷ xs) d [] e after p = inr (xs, ap (λ z. z ∷ xs) (ap (λ l. get_or l 0 x) p))
parted (x ∷ xs) d (b ∷ bs) e after p = ⊎_elim (λ t. inl ((λ i. (ap (λ l. get_or l 0 x) p) i ∷ t.0 i), t.1))
    (λ t. inr (t.0, λ i. (ap (λ l. get_or l 0 x) p) i ∷ t.1 i))
    (parted xs d bs e after (ap (drop 1) p))
