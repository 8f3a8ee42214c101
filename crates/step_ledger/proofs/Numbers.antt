-- Members that stand at their numbers.
use Rattle.std.specs.Prelude.{◌++◌, ◌+◌, ◌<◌, ◌∷◌, ◌≡◌}
use Rattle.step_ledger.proofs.Uses.{[], All, ap, AreNumbered, arith, get_elem?, get_or, length, length-append, List, map, records_from, refl, some, subst, suc, sym, zero, ℕ, ⊎_elim, ◌∙◌}
use Rattle.step_ledger.proofs.Seats.{snoc_at}

module _ {A : Type 0} (IsNumber : ℕ → A → Type 0) where
  -- one more member
  pub numbered_more : (n : ℕ) (xs ys : List A) (x : A) → AreNumbered IsNumber n xs → ys ≡ xs ++ x ∷ [] → IsNumber n x
      → AreNumbered IsNumber (n + 1) ys
  numbered_more n xs ys x are is last = (
    ap length is ∙ length-append xs (x ∷ []) ∙ ap (λ (z : ℕ). z + 1) are.0,
    λ i y at. ⊎_elim (λ (old : get_elem? xs i ≡ some y). are.1 i y old)
        (λ (t : (i ≡ length xs) × (x ≡ y)). subst (λ (z : ℕ × A). IsNumber z.0 z.1)
        (λ j. (sym (t.0 ∙ are.0) j, t.1 j)) last)
        (snoc_at xs x y i (ap (λ (z : List A). get_elem? z i) (sym is) ∙ at)),
  )

  -- what holds of a member of any number holds of all
  pub numbered_all : (P : A → Type 0) (n : ℕ) (xs : List A) → AreNumbered IsNumber n xs
      → ((i : ℕ) (x : A) → IsNumber i x → P x) → All P xs
  numbered_all P n xs are holds i d less = holds i (get_or xs i d) (are.1 i (get_or xs i d) (entry xs i d less))
    where
      entry : (xs : List A) (i : ℕ) (d : A) → i < length xs → get_elem? xs i ≡ some (get_or xs i d)
      entry [] i d h = absurd (omega arith)
      entry (x ∷ xs) zero d h = refl
      entry (x ∷ xs) (suc i) d h = entry xs i d (omega arith)

-- their records, where the number of a member determines its record
pub numbered_records : {A B : Type 0} (record_of : A → B) (fresh : ℕ → B) (n : ℕ) (xs : List A)
    → AreNumbered (λ (i : ℕ) (x : A). record_of x ≡ fresh i) n xs → map record_of xs ≡ records_from fresh 0 n
numbered_records {A} record_of fresh n xs are = ordered xs 0 (λ i x at. are.1 i x at ∙ (let first : i ≡ 0 + i = omega arith in ap fresh first))
    ∙ ap (records_from fresh 0) are.0
  where
    ordered : (xs : List A) (c : ℕ) → ((i : ℕ) (x : A) → get_elem? xs i ≡ some x → record_of x ≡ fresh (c + i))
        → map record_of xs ≡ records_from fresh c (length xs)
    ordered [] c same = refl
    ordered (x ∷ xs) c same = let first : c + 0 ≡ c = omega arith in
        (λ j. (same 0 x refl ∙ ap fresh first) j ∷ map record_of xs)
        ∙ ap (λ (l : List _). fresh c ∷ l) (ordered xs (suc c) (λ i y at.
        let z : c + suc i ≡ suc c + i = omega arith in same (suc i) y at ∙ ap fresh z))
