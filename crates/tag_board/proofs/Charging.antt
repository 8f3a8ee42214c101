-- What the steps of a charge and of a walk count and grant.
use Rattle.std.proofs.Common.{◌≡◌, ℕ, zero, suc, ◌+◌, ◌-◌, ◌%◌, ◌<◌, ⊎_elim, ◌⊎◌, inl, inr, List, [], ◌∷◌, length, sum, refl, ap, arith, min}
use Rattle.std.proofs.lemmas.List.Sums.{sum_by-cons}
use Rattle.tag_board.proofs.Uses.{total, Charge, Full, Below, Won, Busy, GroupStep, moved_by, waiting}
use Rattle.wake_book.specs.declared.steps.BookStep.{BookStep}
use Rattle.wake_book.specs.declared.steps.BookStep.TheVariants.{Add}
use Rattle.wake_book.specs.Charges.{added}
use Rattle.wake_book.specs.Charging.{LosesTries, IsCharge}
use Rattle.wake_book.proofs.GroupSteps.{yes_of, no_of}
use Rattle.wake_book.specs.Walks.{LosesGrants, LosesAndLooks, VisitsGroup, AreVisits, WalksOn, IsWalk}

-- lost tries count nothing
loses_add : (tries batch : ℕ) (steps steps' : List BookStep) → LosesTries tries batch steps steps'
    → total added steps' ≡ total added steps
loses_add zero batch steps steps' same = ap (total added) same
loses_add (suc tries) batch steps steps' c =
    let rest = loses_add tries batch steps c.3 c.4 in let all = ap (total added) c.7 in omega arith

-- a charge of n counts n completions, or none if they would exceed the cap
pub charge_adds : (cap batch n : ℕ) (steps steps' : List BookStep) (charge : Charge)
    → IsCharge cap batch n steps steps' charge
    → (total added steps' ≡ total added steps + n) ⊎ ((steps' ≡ steps) × (cap < total added steps + n))
charge_adds cap batch n steps steps' Full c = inr (c.1, c.0)
charge_adds cap batch n steps steps' Below c =
    let lost = loses_add c.1.2 batch (Add n c.1.1 ∷ steps) c.0 c.1.4 in let all = ap (total added) c.5 in
    inl (omega arith)
charge_adds cap batch n steps steps' (Won start) c =
    let lost = loses_add c.1.2 batch (Add n c.1.1 ∷ steps) c.0 c.1.4 in let all = ap (total added) c.4 in
    inl (omega arith)
charge_adds cap batch n steps steps' Busy c =
    let lost = loses_add c.2 batch (Add n c.1 ∷ steps) steps' c.4 in inl (omega arith)

-- lost exchanges grant nothing
loses_grant : (tries g most : ℕ) (steps steps' : List GroupStep) → LosesGrants tries g most steps steps'
    → total moved_by steps' ≡ total moved_by steps
loses_grant zero g most steps steps' same = ap (total moved_by) same
loses_grant (suc tries) g most steps steps' l =
    let rest = loses_grant tries g most steps l.2 l.3 in let all = ap (total moved_by) l.6 in
    let none = no_of l.1 l.0 (min (waiting l.0) most) 0 l.5 in omega arith

looks_grant : (g most : ℕ) (steps steps' : List GroupStep) (found : ℕ) → LosesAndLooks g most steps steps' found
    → total moved_by steps' ≡ total moved_by steps
looks_grant g most steps steps' found l =
    let rest = loses_grant l.0 g most steps l.2 l.3 in let all = ap (total moved_by) l.4 in omega arith

-- a visit grants what it says that it moved
visit_grants : (g most : ℕ) (steps steps' : List GroupStep) (moved : ℕ) → VisitsGroup g most steps steps' moved
    → total moved_by steps' ≡ total moved_by steps + moved
visit_grants g most steps steps' moved v = ⊎_elim
    (λ nobody. let rest = looks_grant g most steps steps' nobody.0 nobody.1 in let none = nobody.3 in omega arith)
    (λ some. ⊎_elim
    (λ wins. let rest = looks_grant g most steps wins.1 wins.0 wins.2 in let all = ap (total moved_by) wins.5 in
    let won = yes_of wins.0 wins.0 moved 0 refl in omega arith)
    (λ four. let rest = loses_grant four.0 g most steps steps' four.2 in let none = four.3 in omega arith) some) v

-- visits grant what they moved, all together
visits_grant : (first nr : ℕ) (counts : List ℕ) (steps steps' : List GroupStep) → AreVisits first nr counts steps steps'
    → total moved_by steps' ≡ total moved_by steps + sum counts
visits_grant first nr [] steps steps' same = let all = ap (total moved_by) same in omega arith
visits_grant first nr (moved ∷ earlier) steps steps' v = let rest = visits_grant first nr earlier steps v.0 v.1 in
    let visit = visit_grants ((first + length earlier) % 8) (nr - sum earlier) v.0 steps' moved v.3 in
    let more = sum_by-cons (λ x. x) moved earlier in omega arith

-- a walk grants as many wakeups as it says
pub walk_grants : (nr : ℕ) (steps steps' : List GroupStep) (moved : ℕ) → IsWalk nr steps steps' moved
    → total moved_by steps' ≡ total moved_by steps + moved
walk_grants nr steps steps' moved w = ⊎_elim
    (λ full. let all = ap (total moved_by) full.1 in let none = full.2 in omega arith)
    (λ room. ⊎_elim
    (λ nobody. let all = ap (total moved_by) nobody.1 in let none = nobody.2 in omega arith)
    (λ walks. on walks.1) room) w
  where
    on : WalksOn nr steps steps' moved → total moved_by steps' ≡ total moved_by steps + moved
    on w = let visits = visits_grant w.2 nr w.4 _ w.5 w.6 in let all = ap (total moved_by) w.9 in let is = w.10 in
        omega arith
