-- Where each member's record stands, as views pass from seat to seat. Nothing here depends on what a record tells.
use Rattle.std.specs.Prelude.{◌++◌, ◌+◌, ◌-◌, ◌<◌, ◌∷◌, ◌≡◌, ◌≢◌, ◌⊎◌}
use Rattle.step_ledger.proofs.Uses.{[], ap, arith, at_longer, at_set, Bool, both_views, cond, EachStands, eq-eqb, get_elem?, inl, inr, length, List, nat_eq, ne_eqb, own_view, refl, set, set_else, set_here, some, some-injective, some-ne-none, subst, suc, sym, View, viewing, zero, ℕ, ⊎_elim}
use Rattle.step_ledger.proofs.Uses.{◌∙◌}
use mathlib.Core.Logic.{dite}
use native.Mathlib.Decide.{ℕ_discrete}

-- an entry stands below the length
pub within : {A : Type 0} (l : List A) (i : ℕ) (a : A) → get_elem? l i ≡ some a → i < length l
within [] i a e = absurd (some-ne-none a (sym e))
within (x ∷ xs) zero a e = omega arith
within (x ∷ xs) (suc i) a e = let w = within xs i a e in omega arith

-- an entry of a longer list
pub snoc_at : {A : Type 0} (l : List A) (a b : A) (j : ℕ) → get_elem? (l ++ a ∷ []) j ≡ some b
    → (get_elem? l j ≡ some b) ⊎ ((j ≡ length l) × (a ≡ b))
snoc_at [] a b zero e = inr (refl, some-injective a b e)
snoc_at [] a b (suc j) e = absurd (some-ne-none b (sym e))
snoc_at (x ∷ xs) a b zero e = inl e
snoc_at (x ∷ xs) a b (suc j) e =
    ⊎_elim inl (λ (t : (j ≡ length xs) × (a ≡ b)). inr (ap suc t.0, t.1)) (snoc_at xs a b j e)

-- the last entry of a longer list
pub snoc_here : {A : Type 0} (l : List A) (a : A) → get_elem? (l ++ a ∷ []) (length l) ≡ some a
snoc_here [] a = refl
snoc_here (x ∷ xs) a = snoc_here xs a

-- an entry of two lists is one of the first or of the second
pub append_at : {A : Type 0} (l m : List A) (b : A) (j : ℕ) → get_elem? (l ++ m) j ≡ some b
    → (get_elem? l j ≡ some b) ⊎ ((i : ℕ) × (j ≡ length l + i) × (get_elem? m i ≡ some b))
append_at [] m b j e = inr (j, omega arith, e)
append_at (x ∷ xs) m b zero e = inl e
append_at (x ∷ xs) m b (suc j) e =
    ⊎_elim inl (λ (t : (i : ℕ) × (j ≡ length xs + i) × (get_elem? m i ≡ some b)). inr
    (t.0, ap suc t.1 ∙ omega arith, t.2)) (append_at xs m b j e)

-- an entry of the second of two lists
pub append_second : {A : Type 0} (l m : List A) (i : ℕ) → get_elem? (l ++ m) (length l + i) ≡ get_elem? m i
append_second [] m i = let e : 0 + i ≡ i = omega arith in ap (get_elem? m) e
append_second (x ∷ xs) m i =
    let e : suc (length xs) + i ≡ suc (length xs + i) = omega arith in
    ap (get_elem? ((x ∷ xs) ++ m)) e ∙ append_second xs m i

-- what holds of each pair of entries holds with one pair more
pub pairs_more : {A : Type 0} (P : A → A → Type 0) (olds news : List A) (a b : A) → length news ≡ length olds
    → ((n : ℕ) (x y : A) → get_elem? olds n ≡ some x → get_elem? news n ≡ some y → P x y) → P a b
    → (n : ℕ) (x y : A) → get_elem? (olds ++ a ∷ []) n ≡ some x → get_elem? (news ++ b ∷ []) n ≡ some y → P x y
pairs_more {A} P olds news a b long same one n x y e f = ⊎_elim
    (λ (old : get_elem? olds n ≡ some x). ⊎_elim
    (λ (new : get_elem? news n ≡ some y). same n x y old new)
    (λ (t : (n ≡ length news) × (b ≡ y)). let low = within olds n x old in let here = t.0 in absurd (omega arith))
    (snoc_at news b y n f))
    (λ (t : (n ≡ length olds) × (a ≡ x)). ⊎_elim
    (λ (new : get_elem? news n ≡ some y). let low = within news n y new in let here = t.0 in absurd (omega arith))
    (λ (u : (n ≡ length news) × (b ≡ y)). subst (λ (z : A × A). P z.0 z.1) (λ j. (t.1 j, u.1 j)) one)
    (snoc_at news b y n f))
    (snoc_at olds a x n e)

pub first_only : {A : Type 0} (i : ℕ) (a q : A) → get_elem? (a ∷ []) i ≡ some q → (i ≡ 0) × (a ≡ q)
first_only zero a q e = (refl, some-injective a q e)
first_only (suc i) a q e = absurd (some-ne-none q (sym e))

-- two views with one record each are the same where the records are
pub same_record : {A : Type 0} (a b : A) → own_view a ≡ own_view b → a ≡ b
same_record a b e = some-injective a b (ap (λ (v : View _). get_elem? v.records.value 0) e)

behind : {A : Type 0} (i : ℕ) (a : A) (qs : List A) (q : A) → (a ≢ q) → get_elem? (a ∷ qs) i ≡ some q
    → get_elem? qs (i - 1) ≡ some q
behind zero a qs q ne e = absurd (ne (some-injective a q e))
behind (suc i) a qs q ne e = (let z : suc i - 1 ≡ i = omega arith in ap (get_elem? qs) z) ∙ e

module _ {A : Type 0} (number : A → ℕ) where
  -- where the records stand: each number has one seat and one position there, and what is known of its record
  pub record Standing (Known : A → Type 0) (n : ℕ) (views : List (View A)) : Type 0 where
    pub seat : ℕ → ℕ
    pub position : ℕ → ℕ
    pub records : (j : ℕ) (v : View A) → get_elem? views j ≡ some v → (i : ℕ) (r : A)
        → get_elem? v.records.value i ≡ some r → Known r × (seat (number r) ≡ j) × (position (number r) ≡ i)
    pub each : EachStands number n views seat position

  -- a record of the same number takes the place of the only one
  pub each_same : (n : ℕ) (views : List (View A)) (seat position : ℕ → ℕ) (id : ℕ) (r r' : A)
      → get_elem? views id ≡ some (own_view r) → number r' ≡ number r → EachStands number n views seat position
      → EachStands number n (set views id (own_view r')) seat position
  each_same n views seat position id r r' at same each c l = let w = each c l in
      dite (ℕ_discrete (seat c) id)
      (λ (es : seat c ≡ id).
      let one : own_view r ≡ w.0 =
      some-injective (own_view r) w.0 (sym at ∙ ap (get_elem? views) (sym es) ∙ w.2) in
      let f = first_only (position c) r w.1 (ap (λ (z : View A). get_elem? z.records.value (position c)) one ∙ w.3) in (
        own_view r',
        r',
        ap (get_elem? (set views id (own_view r'))) es
            ∙ set_here views id (own_view r') (within views id (own_view r) at),
        ap (get_elem? (r' ∷ [])) f.0,
        same ∙ ap number f.1 ∙ w.4,
      ))
      (λ (far : seat c ≢ id). (w.0, w.1, set_else views id (seat c) (own_view r') far ∙ w.2, w.3, w.4))

  module _ (Known : A → Type 0) (n : ℕ) (views : List (View A)) (s : Standing Known n views) where
    module _ (id : ℕ) (r : A) (rs : List A) (at : get_elem? views id ≡ some (viewing (r ∷ rs))) where
      abbrev vs : List (View A)
      vs = set views id (viewing rs)

      -- the first record passes to a new seat
      pub split : Standing Known n (set views id (viewing rs) ++ own_view r ∷ [])
      split =
          let first = s.records id (viewing (r ∷ rs)) at 0 r refl in
          let seat' : ℕ → ℕ = λ c. cond (nat_eq c (number r)) (length vs) (s.seat c) in
          let before : ℕ → ℕ = λ c. cond (nat_eq (s.seat c) id) (s.position c - 1) (s.position c) in
          let position' : ℕ → ℕ = λ c. cond (nat_eq c (number r)) 0 (before c) in
          let stays : (c : ℕ) → c ≢ number r → (seat' c ≡ s.seat c) × (position' c ≡ before c) = (λ c far. (
            ap (λ (b : Bool). cond b (length vs) (s.seat c)) (ne_eqb c (number r) far),
            ap (λ (b : Bool). cond b 0 (before c)) (ne_eqb c (number r) far),
          )) in
          let goes : (c : ℕ) → c ≡ number r → (seat' c ≡ length vs) × (position' c ≡ 0) = (λ c here. (
            ap (λ (b : Bool). cond b (length vs) (s.seat c)) (eq-eqb c (number r) here),
            ap (λ (b : Bool). cond b 0 (before c)) (eq-eqb c (number r) here),
          )) in
          let here : (c : ℕ) → s.seat c ≡ id → before c ≡ s.position c - 1 =
          (λ c e. ap (λ (b : Bool). cond b (s.position c - 1) (s.position c)) (eq-eqb (s.seat c) id e)) in
          let else : (c : ℕ) → s.seat c ≢ id → before c ≡ s.position c =
          (λ c e. ap (λ (b : Bool). cond b (s.position c - 1) (s.position c)) (ne_eqb (s.seat c) id e)) in record {
            seat = seat';
            position = position';
            records = λ j v' e i q e'. ⊎_elim
                (λ (old : get_elem? vs j ≡ some v'). ⊎_elim
                (λ (t : (j ≡ id) × (viewing rs ≡ v')).
                let o = s.records id (viewing (r ∷ rs)) at (suc i) q
                (ap (λ (z : View A). get_elem? z.records.value i) t.1 ∙ e') in
                let far : number q ≢ number r = (λ z. let p = sym o.2 ∙ ap s.position z ∙ first.2 in
                absurd (omega arith)) in
                let p = o.2 in let less : s.position (number q) - 1 ≡ i = omega arith in
                let m = stays (number q) far in
                (o.0, m.0 ∙ o.1 ∙ sym t.0, m.1 ∙ here (number q) o.1 ∙ less))
                (λ (t : (j ≢ id) × (get_elem? views j ≡ some v')).
                let o = s.records j v' t.1 i q e' in
                let m = stays (number q) (λ z. t.0 (sym o.1 ∙ ap s.seat z ∙ first.1)) in
                (o.0, m.0 ∙ o.1, m.1 ∙ else (number q) (λ z. t.0 (sym o.1 ∙ z)) ∙ o.2))
                (at_set views id j (viewing rs) v' old))
                (λ (t : (j ≡ length vs) × (own_view r ≡ v')).
                let o = first_only i r q (ap (λ (z : View A). get_elem? z.records.value i) t.1 ∙ e') in
                let m = goes (number q) (ap number (sym o.1)) in
                (subst Known o.1 first.0, m.0 ∙ sym t.0, m.1 ∙ sym o.0))
                (snoc_at vs (own_view r) v' j e);
            each = λ c l. let w = s.each c l in dite (ℕ_discrete c (number r))
                (λ (e : c ≡ number r). let m = goes c e in (
                  own_view r,
                  r,
                  ap (get_elem? (vs ++ own_view r ∷ [])) m.0 ∙ snoc_here vs (own_view r),
                  ap (get_elem? (r ∷ [])) m.1,
                  sym e,
                ))
                (λ (ne : c ≢ number r). let m = stays c ne in dite (ℕ_discrete (s.seat c) id)
                (λ (es : s.seat c ≡ id).
                let same : viewing (r ∷ rs) ≡ w.0 =
                some-injective (viewing (r ∷ rs)) w.0 (sym at ∙ ap (get_elem? views) (sym es) ∙ w.2) in
                let q = behind (s.position c) r rs w.1 (λ z. ne (sym w.4 ∙ ap number (sym z)))
                (ap (λ (z : View A). get_elem? z.records.value (s.position c)) same ∙ w.3) in (
                  viewing rs,
                  w.1,
                  ap (get_elem? (vs ++ own_view r ∷ [])) (m.0 ∙ es) ∙ at_longer vs (own_view r ∷ []) id (viewing rs)
                      (set_here views id (viewing rs) (within views id (viewing (r ∷ rs)) at)),
                  ap (get_elem? rs) (m.1 ∙ here c es) ∙ q,
                  w.4,
                ))
                (λ (far : s.seat c ≢ id). (
                  w.0,
                  w.1,
                  ap (get_elem? (vs ++ own_view r ∷ [])) m.0 ∙ at_longer vs (own_view r ∷ []) (s.seat c) w.0
                      (set_else views id (s.seat c) (viewing rs) far ∙ w.2),
                  ap (get_elem? w.0.records.value) (m.1 ∙ else c far) ∙ w.3,
                  w.4,
                )));
          }

    module _ (id other : ℕ) (v w : View A) (at : get_elem? views id ≡ some v) (that : get_elem? views other ≡ some w)
        (apart : ¬ (other ≡ id)) where
      abbrev us : List (View A)
      us = set views id (both_views v w)

      -- one seat's records pass behind another's
      pub join : Standing Known n (set (set views id (both_views v w)) other (viewing []))
      join =
          let many : ℕ = length v.records.value in
          let seat' : ℕ → ℕ = λ c. cond (nat_eq (s.seat c) other) id (s.seat c) in
          let position' : ℕ → ℕ = λ c. cond (nat_eq (s.seat c) other) (many + s.position c) (s.position c) in
          let stays : (c : ℕ) → s.seat c ≢ other → (seat' c ≡ s.seat c) × (position' c ≡ s.position c) = (λ c far. (
            ap (λ (b : Bool). cond b id (s.seat c)) (ne_eqb (s.seat c) other far),
            ap (λ (b : Bool). cond b (many + s.position c) (s.position c)) (ne_eqb (s.seat c) other far),
          )) in
          let goes : (c : ℕ) → s.seat c ≡ other → (seat' c ≡ id) × (position' c ≡ many + s.position c) = (λ c here. (
            ap (λ (b : Bool). cond b id (s.seat c)) (eq-eqb (s.seat c) other here),
            ap (λ (b : Bool). cond b (many + s.position c) (s.position c)) (eq-eqb (s.seat c) other here),
          )) in
          let there : get_elem? (set us other (viewing [])) id ≡ some (both_views v w) =
          set_else us other id (viewing []) (λ (z : id ≡ other). apart (sym z))
          ∙ set_here views id (both_views v w) (within views id v at) in record {
            seat = seat';
            position = position';
            records = λ j v' e i q e'. ⊎_elim
                (λ (t : (j ≡ other) × (viewing [] ≡ v')). absurd (some-ne-none q
                (sym (ap (λ (z : View A). get_elem? z.records.value i) t.1 ∙ e'))))
                (λ (t : (j ≢ other) × (get_elem? us j ≡ some v')). ⊎_elim
                (λ (u : (j ≡ id) × (both_views v w ≡ v')). ⊎_elim
                (λ (own : get_elem? v.records.value i ≡ some q). let o = s.records id v at i q own in
                let m = stays (number q) (λ z. t.0 (u.0 ∙ sym o.1 ∙ z)) in (o.0, m.0 ∙ o.1 ∙ sym u.0, m.1 ∙ o.2))
                (λ (his : (a : ℕ) × (i ≡ many + a) × (get_elem? w.records.value a ≡ some q)).
                let o = s.records other w that his.0 q his.2 in let m = goes (number q) o.1 in
                (o.0, m.0 ∙ sym u.0, m.1 ∙ ap (λ (z : ℕ). many + z) o.2 ∙ sym his.1))
                (append_at v.records.value w.records.value q i
                (ap (λ (z : View A). get_elem? z.records.value i) u.1 ∙ e')))
                (λ (u : (j ≢ id) × (get_elem? views j ≡ some v')). let o = s.records j v' u.1 i q e' in
                let m = stays (number q) (λ z. t.0 (sym o.1 ∙ z)) in (o.0, m.0 ∙ o.1, m.1 ∙ o.2))
                (at_set views id j (both_views v w) v' t.1))
                (at_set us other j (viewing []) v' e);
            each = λ c l. let x = s.each c l in dite (ℕ_discrete (s.seat c) other)
                (λ (es : s.seat c ≡ other). let m = goes c es in
                let same : w ≡ x.0 = some-injective w x.0 (sym that ∙ ap (get_elem? views) (sym es) ∙ x.2) in (
                  both_views v w,
                  x.1,
                  ap (get_elem? (set us other (viewing []))) m.0 ∙ there,
                  ap (get_elem? (v.records.value ++ w.records.value)) m.1
                      ∙ append_second v.records.value w.records.value (s.position c)
                      ∙ ap (λ (z : View A). get_elem? z.records.value (s.position c)) same ∙ x.3,
                  x.4,
                ))
                (λ (far : s.seat c ≢ other). let m = stays c far in dite (ℕ_discrete (s.seat c) id)
                (λ (es : s.seat c ≡ id).
                let same : v ≡ x.0 = some-injective v x.0 (sym at ∙ ap (get_elem? views) (sym es) ∙ x.2) in (
                  both_views v w,
                  x.1,
                  ap (get_elem? (set us other (viewing []))) (m.0 ∙ es) ∙ there,
                  ap (get_elem? (v.records.value ++ w.records.value)) m.1
                      ∙ at_longer v.records.value w.records.value (s.position c) x.1
                      (ap (λ (z : View A). get_elem? z.records.value (s.position c)) same ∙ x.3),
                  x.4,
                ))
                (λ (off : s.seat c ≢ id). (
                  x.0,
                  x.1,
                  ap (get_elem? (set us other (viewing []))) m.0 ∙ set_else us other (s.seat c) (viewing []) far
                      ∙ set_else views id (s.seat c) (both_views v w) off ∙ x.2,
                  ap (get_elem? x.0.records.value) m.1 ∙ x.3,
                  x.4,
                )));
          }
