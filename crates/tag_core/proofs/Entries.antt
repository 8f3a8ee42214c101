-- Entries of lists, and of what a function makes of them.
use Rattle.std.specs.Prelude.{◌<◌, ◌∷◌, ◌≡◌}
use Rattle.tag_core.proofs.Uses.{[], All, arith, get_elem?, get_or, length, List, map, refl, some, some-injective, some-ne-none, subst, suc, sym, within, zero, ℕ}

module _ {A : Type 0} where
  -- below the length there is an entry
  pub entry : (xs : List A) (i : ℕ) → i < length xs → (x : A) × (get_elem? xs i ≡ some x)
  entry [] i h = absurd (omega arith)
  entry (x ∷ xs) zero h = (x, refl)
  entry (x ∷ xs) (suc i) h = entry xs i (omega arith)

  -- it is the one that a read gives
  pub entry_or : (xs : List A) (i : ℕ) (d : A) → i < length xs → get_elem? xs i ≡ some (get_or xs i d)
  entry_or [] i d h = absurd (omega arith)
  entry_or (x ∷ xs) zero d h = refl
  entry_or (x ∷ xs) (suc i) d h = entry_or xs i d (omega arith)

  -- what holds of all holds of an entry
  pub all_at : (P : A → Type 0) (xs : List A) → All P xs → (i : ℕ) (x : A) → get_elem? xs i ≡ some x → P x
  all_at P xs all i x at = subst P (is xs i x at) (all i x (within xs i x at))
    where
      is : (ys : List A) (j : ℕ) (y : A) → get_elem? ys j ≡ some y → get_or ys j y ≡ y
      is [] j y e = refl
      is (z ∷ ys) zero y e = some-injective z y e
      is (z ∷ ys) (suc j) y e = is ys j y e

  -- an entry of a mapped list comes from one of the list
  pub entry_of_map : {B : Type 0} (f : A → B) (xs : List A) (i : ℕ) (b : B) → get_elem? (map f xs) i ≡ some b
      → (x : A) × (get_elem? xs i ≡ some x) × (f x ≡ b)
  entry_of_map f [] i b e = absurd (some-ne-none b (sym e))
  entry_of_map f (x ∷ xs) zero b e = (x, refl, some-injective (f x) b e)
  entry_of_map f (x ∷ xs) (suc i) b e = entry_of_map f xs i b e
