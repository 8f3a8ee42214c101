-- How many steps a walk adds at most.
use Rattle.std.specs.Prelude.{◌%◌, ◌*◌, ◌+◌, ◌-◌, ◌∷◌, ◌≡◌, ◌≤◌}
use Rattle.wake_book.proofs.Uses.{[], ap, AreVisits, arith, GroupStep, length, List, LosesAndLooks, LosesGrants, suc, sum, VisitsGroup, zero, ℕ, ⊎_elim, ◌∙◌}

lost_long : (tries g most : ℕ) (s s' : List GroupStep) → LosesGrants tries g most s s'
    → length s' ≡ 2 * tries + length s
lost_long zero g most s s' l = ap length l ∙ omega arith
lost_long (suc tries) g most s s' l = let ih = lost_long tries g most s l.2 l.3 in let e = ap length l.6 in omega arith

looked_long : (g most : ℕ) (s s' : List GroupStep) (found : ℕ) → LosesAndLooks g most s s' found
    → length s' ≤ 7 + length s
looked_long g most s s' found a = let l = lost_long a.0 g most s a.2 a.3 in let e = ap length a.4 in let few = a.1 in
    omega arith

visit_long : (g most : ℕ) (s s' : List GroupStep) (moved : ℕ) → VisitsGroup g most s s' moved → length s' ≤ 8 + length s
visit_long g most s s' moved v = ⊎_elim
    (λ a. let l = looked_long g most s s' a.0 a.1 in omega arith)
    (λ r. ⊎_elim (λ a. let l = looked_long g most s a.1 a.0 a.2 in let e = ap length a.5 in
    omega arith) (λ a. let l = lost_long a.0 g most s s' a.2 in let four = a.1 in omega arith) r) v

pub visits_long : (first nr : ℕ) (counts : List ℕ) (s s' : List GroupStep) → AreVisits first nr counts s s'
    → length s' ≤ 8 * length counts + length s
visits_long first nr [] s s' v = let e = ap length v in omega arith
visits_long first nr (moved ∷ earlier) s s' v = let ih = visits_long first nr earlier s v.0 v.1 in
    let t = visit_long ((first + length earlier) % 8) (nr - sum earlier) v.0 s' moved v.3 in omega arith
