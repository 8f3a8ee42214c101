-- What a visit grants in each group.
use Rattle.std.specs.Prelude.{◌+◌, ◌<◌, ◌≡◌, ◌≢◌}
use Rattle.wake_book.proofs.Uses.{ap, arith, cond, dite, get_or, get_or-set_other, get_or-set_same, granted_in, GroupStep, length, List, LosesAndLooks, LosesGrants, min, nat_eq, refl, set, suc, sum, sum_by-set, sym, total, VisitsGroup, waiting, zero, ℕ, ℕ_discrete, ⊎_elim, ◌∙◌}
use Rattle.wake_book.proofs.GroupSteps.{at_hit, at_miss, yes_of, no_of}

module _ (k g most : ℕ) where
  lost_none : (tries : ℕ) (s s' : List GroupStep) → LosesGrants tries g most s s'
      → total (granted_in k) s' ≡ total (granted_in k) s
  lost_none zero s s' l = ap (total (granted_in k)) l
  lost_none (suc tries) s s' l = let ih = lost_none tries s l.2 l.3 in let e = ap (total (granted_in k)) l.6 in
      let z = at_miss k g l.1 l.0 (min (waiting l.0) most) l.5 in omega arith

  looked_none : (s s' : List GroupStep) (found : ℕ) → LosesAndLooks g most s s' found
      → total (granted_in k) s' ≡ total (granted_in k) s
  looked_none s s' found a = let l = lost_none a.0 s a.2 a.3 in let e = ap (total (granted_in k)) a.4 in omega arith

  nothing : (moved : ℕ) → moved ≡ 0 → cond (nat_eq g k) moved 0 ≡ 0
  nothing moved e = dite (ℕ_discrete g k) (λ z. yes_of g k moved 0 z ∙ e) (λ z. no_of g k moved 0 z)

  -- a visit grants what it moved in its own group, and nothing in the others
  pub granted_by_visit : (s s' : List GroupStep) (moved : ℕ) → VisitsGroup g most s s' moved
      → total (granted_in k) s' ≡ total (granted_in k) s + cond (nat_eq g k) moved 0
  granted_by_visit s s' moved v = ⊎_elim
      (λ a. let l = looked_none s s' a.0 a.1 in let z = nothing moved a.3 in omega arith)
      (λ r. ⊎_elim
      (λ a. let l = looked_none s a.1 a.0 a.2 in let e = ap (total (granted_in k)) a.5 in
      let h = at_hit k g a.0 a.0 moved refl in omega arith)
      (λ a. let l = lost_none a.0 s s' a.2 in let z = nothing moved a.3 in omega arith) r) v

-- the sum of a list goes up with an entry
pub sum_set : (xs : List ℕ) (i y : ℕ) → i < length xs → sum (set xs i y) + get_or xs i 0 ≡ sum xs + y
sum_set xs i y low = let rest = sum_by-set (λ x. x) xs i y 0 low in omega arith

-- an entry that goes up in one group is that of the group
pub counted_at : (xs : List ℕ) (g k moved : ℕ) → g < length xs
    → get_or (set xs g (get_or xs g 0 + moved)) k 0 ≡ get_or xs k 0 + cond (nat_eq g k) moved 0
counted_at xs g k moved lt = dite (ℕ_discrete g k)
    (λ (e : g ≡ k). let y = yes_of g k moved 0 e in let a = ap (λ (z : ℕ). get_or xs z 0) e in
    let b = ap (λ (z : ℕ). get_or (set xs g (get_or xs g 0 + moved)) z 0) e in
    let s = get_or-set_same xs g (get_or xs g 0 + moved) 0 lt in omega arith)
    (λ (ne : g ≢ k). let n = no_of g k moved 0 ne in
    let s = get_or-set_other xs g k (get_or xs g 0 + moved) 0 (λ z. ne (sym z)) in omega arith)
