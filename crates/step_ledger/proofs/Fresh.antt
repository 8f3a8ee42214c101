-- The records of all members in one seat, in the order of their numbers, as a table opens with them.
use Rattle.std.specs.Prelude.{◌+◌, ◌-◌, ◌<◌, ◌∷◌, ◌≡◌}
use Rattle.step_ledger.proofs.Uses.{[], ap, arith, first_view, get_elem?, other_views, own_view, records_from, refl, some, some-injective, some-ne-none, subst, suc, sym, View, viewing, zero, ℕ, ◌∙◌}
use Rattle.step_ledger.proofs.Seats.{Standing}

module _ {A : Type 0} (record_of : ℕ → A) where
  from_at : (m c i : ℕ) (r : A) → get_elem? (records_from record_of c m) i ≡ some r
      → (i < m) × (record_of (c + i) ≡ r)
  from_at zero c i r e = absurd (some-ne-none r (sym e))
  from_at (suc m) c zero r e = (
    omega arith,
    (let z : c + 0 ≡ c = omega arith in ap record_of z) ∙ some-injective (record_of c) r e,
  )
  from_at (suc m) c (suc i) r e = let w = from_at m (suc c) i r e in let l = w.0 in
      (omega arith, (let z : c + suc i ≡ suc c + i = omega arith in ap record_of z) ∙ w.1)

  at_from : (m c i : ℕ) → i < m → get_elem? (records_from record_of c m) i ≡ some (record_of (c + i))
  at_from zero c i h = absurd (omega arith)
  at_from (suc m) c zero h = let z : c ≡ c + 0 = omega arith in ap (λ (x : ℕ). some (record_of x)) z
  at_from (suc m) c (suc i) h = at_from m (suc c) i (omega arith)
      ∙ (let z : suc c + i ≡ c + suc i = omega arith in ap (λ (x : ℕ). some (record_of x)) z)

  -- the first of those that are still to come, and the rest
  next_from : (c n : ℕ) → c < n
      → records_from record_of c (n - c) ≡ record_of c ∷ records_from record_of (c + 1) (n - (c + 1))
  next_from c n h = let d : ℕ = n - (c + 1) in let e : n - c ≡ suc d = omega arith in
      let e' : suc c ≡ c + 1 = omega arith in
      ap (records_from record_of c) e ∙ ap (λ (z : ℕ). record_of c ∷ records_from record_of z d) e'

  -- what the seat that they are handed out from has, gives and keeps
  module _ (c n : ℕ) (low : c < n) (v : View A) (is : v ≡ viewing (records_from record_of c (n - c))) where
    pub next_is : v ≡ viewing (record_of c ∷ records_from record_of (c + 1) (n - (c + 1)))
    next_is = is ∙ ap viewing (next_from c n low)

    pub next_first : first_view v ≡ own_view (record_of c)
    next_first = ap first_view next_is

    pub next_others : other_views v ≡ viewing (records_from record_of (c + 1) (n - (c + 1)))
    next_others = ap other_views next_is

  -- where the records stand in a table that opens
  pub standing-fresh : (number : A → ℕ) (Known : A → Type 0) (n : ℕ) → ((c : ℕ) → number (record_of c) ≡ c)
      → ((c : ℕ) → c < n → Known (record_of c)) → Standing number Known n (viewing (records_from record_of 0 n) ∷ [])
  standing-fresh number Known n same known = record {
    seat = λ c. 0;
    position = λ c. c;
    records = λ j v e i r e'. only_one j v e i r e';
    each = λ c l. (
      viewing (records_from record_of 0 n),
      record_of c,
      refl,
      at_from n 0 c l ∙ (let z : 0 + c ≡ c = omega arith in ap (λ (x : ℕ). some (record_of x)) z),
      same c,
    );
  }
    where
      only_one : (j : ℕ) (v : View A) → get_elem? (viewing (records_from record_of 0 n) ∷ []) j ≡ some v
          → (i : ℕ) (r : A) → get_elem? v.records.value i ≡ some r → Known r × (0 ≡ j) × (number r ≡ i)
      only_one zero v e i r e' =
          let w = from_at n 0 i r (ap (λ (z : View A). get_elem? z.records.value i) (some-injective _ v e) ∙ e') in
          let l = w.0 in let z : 0 + i ≡ i = omega arith in
          (subst Known w.1 (known (0 + i) (omega arith)), refl, ap number (sym w.1) ∙ same (0 + i) ∙ z)
      only_one (suc j) v e i r e' = absurd (some-ne-none v (sym e))
