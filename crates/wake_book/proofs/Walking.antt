-- The visits that a walk has made, and how many waiters they moved.
use Rattle.std.specs.Prelude.{◌%◌, ◌*◌, ◌+◌, ◌-◌, ◌<◌, ◌∷◌, ◌≡◌, ◌≤◌}
use Rattle.wake_book.proofs.Uses.{[], active_at, AreVisits, arith, GroupStep, index_at, IsWalk, length, List, Look, subst, sum, sum_by-cons, VisitsGroup, WalksOn, ℕ, ⊎_elim}
use Rattle.wake_book.proofs.Lengths.{visits_long}

visit_few : (g most : ℕ) (s s' : List GroupStep) (moved : ℕ) → VisitsGroup g most s s' moved → moved ≤ most
visit_few g most s s' moved v = ⊎_elim (λ nobody. let none = nobody.3 in omega arith)
    (λ some. ⊎_elim (λ wins. let is = wins.4 in omega arith) (λ four. let none = four.3 in omega arith) some) v

-- visits move no more than the walk was asked for
visits_few : (first nr : ℕ) (counts : List ℕ) (s s' : List GroupStep) → AreVisits first nr counts s s'
    → sum counts ≤ nr
visits_few first nr [] s s' v = omega arith
visits_few first nr (moved ∷ earlier) s s' v =
    let few = visit_few ((first + length earlier) % 8) (nr - sum earlier) v.0 s' moved v.3 in let some = v.2 in
    let more = sum_by-cons (λ x. x) moved earlier in omega arith

-- a walk moves no more than it was asked for
pub walk_few : (nr : ℕ) (s s' : List GroupStep) (moved : ℕ) → IsWalk nr s s' moved → moved ≤ nr
walk_few nr s s' moved w = ⊎_elim (λ full. let none = full.2 in omega arith)
    (λ room. ⊎_elim (λ nobody. let none = nobody.2 in omega arith) (λ walks. on walks.1) room) w
  where
    on : WalksOn nr s s' moved → moved ≤ nr
    on w = let few = visits_few w.2 nr w.4 _ w.5 w.6 in let is = w.10 in omega arith

-- a walk for `nr` found somebody active and the wake index, and has made so many visits since; `left` of `nr` are still
-- to be moved, and `group` is the next to visit
pub record HasVisited (nr left group visits : ℕ) (old new : List GroupStep) : Type 0 where
  pub active : ℕ
  pub first : ℕ
  pub counts : List ℕ
  pub found : (1 ≤ active) × (first < 8)
  pub made : AreVisits first nr counts (Look index_at first ∷ Look active_at active ∷ old) new
  pub number : length counts ≡ visits
  pub rest : sum counts + left ≡ nr
  pub next : group ≡ (first + length counts) % 8

module _ (nr left group visits : ℕ) (old before : List GroupStep) (walk : HasVisited nr left group visits old before)
  where
    -- one more visit
    pub one_more : (moved : ℕ) (new : List GroupStep) → 0 < left → VisitsGroup group left before new moved
        → HasVisited nr (left - moved) ((group + 1) % 8) (visits + 1) old new
    one_more moved new some visit = let few = visit_few group left before new moved visit in let rest = walk.rest in
        let most : left ≡ nr - sum walk.counts = omega arith in let number = walk.number in let next = walk.next in
        let more = sum_by-cons (λ x. x) moved walk.counts in record {
          active = walk.active;
          first = walk.first;
          counts = moved ∷ walk.counts;
          found = walk.found;
          made = (
            before,
            walk.made,
            omega arith,
            subst (λ (g : ℕ). VisitsGroup g (nr - sum walk.counts) before new moved) next
                (subst (λ (m : ℕ). VisitsGroup group m before new moved) most visit),
          );
          number = omega arith;
          rest = omega arith;
          next = omega arith;
        }

    -- a visit adds at most eight steps
    pub visited_long : length before ≤ 8 * visits + 2 + length old
    visited_long = let long = visits_long walk.first nr walk.counts _ before walk.made in let number = walk.number in
        omega arith
