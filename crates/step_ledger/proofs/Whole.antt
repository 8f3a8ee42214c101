-- Sums over the records of all members, each of which stands once in a list.
use Rattle.std.specs.Prelude.{◌<◌, ◌∷◌, ◌≡◌}
use Rattle.step_ledger.proofs.Uses.{[], ap, arith, get_elem?, Has, length, List, map, refl, some, some-injective, some-ne-none, subst, suc, sum_below, sum_below-first, sum_below-turned, sym, total, zero, ℕ, ◌∙◌}

module _ {A : Type 0} (number : A → ℕ) where
  -- a number that is among those of the records is that of one of them
  pub has_record : (rs : List A) (c : ℕ) → Has (map number rs) c
      → (i : ℕ) × (r : A) × (get_elem? rs i ≡ some r) × (number r ≡ c)
  has_record rs c has = let w = record_at rs has.0 c has.1 in (has.0, w.0, w.1, w.2)
    where
      record_at : (rs : List A) (i c : ℕ) → get_elem? (map number rs) i ≡ some c
          → (r : A) × (get_elem? rs i ≡ some r) × (number r ≡ c)
      record_at [] i c e = absurd (some-ne-none c (sym e))
      record_at (r ∷ rs) zero c e = (r, refl, some-injective (number r) c e)
      record_at (r ∷ rs) (suc i) c e = record_at rs i c e

  -- the number of the record at an index
  abbrev pub number_in : List A → ℕ → ℕ
  number_in [] i = 0
  number_in (r ∷ rs) zero = number r
  number_in (r ∷ rs) (suc i) = number_in rs i

  at_index : (rs : List A) (i : ℕ) → i < length rs → (r : A) × (get_elem? rs i ≡ some r) × (number r ≡ number_in rs i)
  at_index [] i h = absurd (omega arith)
  at_index (r ∷ rs) zero h = (r, refl, refl)
  at_index (r ∷ rs) (suc i) h = at_index rs i (omega arith)

  index_of : (rs : List A) (i : ℕ) (r : A) → get_elem? rs i ≡ some r → (i < length rs) × (number_in rs i ≡ number r)
  index_of [] i r e = absurd (some-ne-none r (sym e))
  index_of (q ∷ rs) zero r e = (omega arith, ap number (some-injective q r e))
  index_of (q ∷ rs) (suc i) r e = let w = index_of rs i r e in let l = w.0 in (omega arith, w.1)

  by_index : (f : ℕ → ℕ) (g : A → ℕ) (rs : List A) → ((i : ℕ) (r : A) → get_elem? rs i ≡ some r → g r ≡ f (number r))
      → total g rs ≡ sum_below (λ i. f (number_in rs i)) (length rs)
  by_index f g [] h = refl
  by_index f g (r ∷ rs) h = let rest = by_index f g rs (λ i q e. h (suc i) q e) in let one = h 0 r refl in
      let s = sum_below-first (λ i. f (number_in (r ∷ rs) i)) (length rs) in omega arith

  module _ (n : ℕ) (rs : List A) (place : ℕ → ℕ)
      (once : (i : ℕ) (r : A) → get_elem? rs i ≡ some r → (number r < n) × (place (number r) ≡ i)) where
    pub number_once : (i : ℕ) → i < length rs → (number_in rs i < n) × (place (number_in rs i) ≡ i)
    number_once i l = let w = at_index rs i l in
        subst (λ (z : ℕ). (z < n) × (place z ≡ i)) w.2 (once i w.0 w.1)

    -- what each member's record tells of it, over all records, is the sum over the members
    pub total_of_all : ((c : ℕ) → c < n → (i : ℕ) × (r : A) × (get_elem? rs i ≡ some r) × (number r ≡ c))
        → (f : ℕ → ℕ) (g : A → ℕ) → ((i : ℕ) (r : A) → get_elem? rs i ≡ some r → g r ≡ f (number r))
        → total g rs ≡ sum_below f n
    total_of_all all f g tells = by_index f g rs tells
        ∙ sum_below-turned f place (number_in rs) (length rs) n number_once
        (λ c l. let w = all c l in let x = index_of rs w.0 w.1 w.2 in (w.0, x.0, x.1 ∙ w.3))
