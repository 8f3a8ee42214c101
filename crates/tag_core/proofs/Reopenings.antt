-- The callers of a map that has ended go on with a next one: what their counts and their records tell of it.
use Rattle.std.specs.Prelude.{◌<◌, ◌∷◌, ◌≡◌, ◌≤◌}
use Rattle.tag_core.proofs.Uses.{[], AllFree, ap, AreReopened, AreSettled, AreUnchanged, arith, at_map, back_in, Bool, Caller, cond, dec_lt, dite, Epoch, eq-eqb, get_elem?, get_or, GoesOn, GoesOnFrom, got_in, Has, HasChain, HasCounts, HaveOwnNumbers, IsChain, IsNext, IsOpening, Layout, le_prop}
use Rattle.tag_core.proofs.Uses.{LeadsOn, List, Map, map, MOST_WON, nat_eq, numbers_of, opening_world, Record, record_of, refl, reopened, Shape, some, Step, steps_by, subst, sum_below-same, sym, Totals, within, world_of, ℕ, ∥∥₁_elim, ∥∥₁_map, ∥∥₁_prop, ◌∙◌}
use native.Mathlib.Nat.{ℕ_set}
use Rattle.tag_core.specs.declared.settled.Settled.{Settled}
use Rattle.tag_core.proofs.Entries.{entry, entry_of_map}

module _ {R : Type 0} where
  -- no history but that of no steps shows that nobody has made a step
  none_done : (k : Shape) (rs : List (Record R))
      → ((c : ℕ) → c < k.callers → ¬ (¬ ((i : ℕ) × (r : Record R) × (get_elem? rs i ≡ some r) × (r.number ≡ c))))
      → ((i : ℕ) (r : Record R) → get_elem? rs i ≡ some r → r.steps ≡ []) → AllFree k rs
  none_done k rs all none [] lawful own tag = refl
  none_done k rs all none (x ∷ older) lawful own tag = absurd (all x.0 lawful.finds.0
      (λ w. let steps : List (Step R) = steps_by w.1.number older in let empty = none w.0 w.1 w.2 in
      let has : w.1.steps ≡ cond (nat_eq x.0 w.1.number) (x.1 ∷ steps) steps = own w.0 w.1 w.2 in
      let here : cond (nat_eq x.0 w.1.number) (x.1 ∷ steps) steps ≡ x.1 ∷ steps =
      ap (λ (b : Bool). cond b (x.1 ∷ steps) steps) (eq-eqb x.0 w.1.number (sym w.3)) in cc))

module _ {R : Type 0} (k : Shape) (callers : List (Caller R)) (totals : Totals) where
  module _ (known : AreSettled k (map record_of callers) totals) where
    -- each caller's number is below the number of callers
    number_of : (i : ℕ) (x : Caller R) → get_elem? callers i ≡ some x → x.number < k.callers
    number_of i x at = (known.each i (record_of x) (at_map (record_of {R = R}) callers i x at)).number

    -- no two callers have one number
    once_of : HaveOwnNumbers callers
    once_of i j a b e f same = known.once i j (record_of a) (record_of b) (at_map (record_of {R = R}) callers i a e)
        (at_map (record_of {R = R}) callers j b f) same

    -- each caller is there
    there_of : (n : ℕ) → n < k.callers → (i : ℕ) × (x : Caller R) × (get_elem? callers i ≡ some x) × (x.number ≡ n)
    there_of n l = let w = known.every n l in let x = entry_of_map (record_of {R = R}) callers w.0 w.1 w.2 in
        (w.0, x.0, x.1, ap (λ (z : Record R). z.number) x.2 ∙ w.3)

    module _ (next : Shape) (counts : HasCounts callers next) where
      -- a caller's count as the next map opens is that of the world in which this one ended
      won_at : (c : ℕ) → c < k.callers → (opening_world next).won c ≡ (world_of k known.history).won c
      won_at c l = let x = there_of c l in
          ap (λ (z : ℕ). get_or next.won_before.value z 0) (sym x.3) ∙ counts.won x.0 x.1 x.2
          ∙ (known.each x.0 (record_of x.1) (at_map (record_of {R = R}) callers x.0 x.1 x.2)).won
          ∙ ap (world_of k known.history).won x.3

      back_at : (c : ℕ) → c < k.callers → (opening_world next).back c ≡ (world_of k known.history).back c
      back_at c l = let x = there_of c l in
          ap (λ (z : ℕ). get_or next.back_before.value z 0) (sym x.3) ∙ counts.back x.0 x.1 x.2
          ∙ (known.each x.0 (record_of x.1) (at_map (record_of {R = R}) callers x.0 x.1 x.2)).back
          ∙ ap (world_of k known.history).back x.3

      -- the next map goes on from the history that showed these callers
      pub goes_on : (layout : Layout) → IsNext layout k next → totals.held ≡ 0 → totals.posted ≡ 0
          → GoesOn (record { shape = k; history = known.history }) next
      goes_on layout is no_held no_posted = record {
        lawful = known.lawful;
        none_held = sym known.totals_are.held ∙ no_held;
        none_posted = sym known.totals_are.posted ∙ no_posted;
        callers = is.callers_is;
        life = is.life_is;
        won = won_at;
        back = back_at;
      }

      -- as many were given back as were won, where nothing is held or posted
      even_of : totals.held ≡ 0 → totals.posted ≡ 0
          → got_in k.callers (opening_world next) ≡ back_in k.callers (opening_world next)
      even_of no_held no_posted =
          let got = sum_below-same (opening_world next).won (world_of k known.history).won k.callers won_at in
          let back = sum_below-same (opening_world next).back (world_of k known.history).back k.callers back_at in
          let a = known.totals_are.got in let b = known.totals_are.back in let even = known.balance in omega arith

      -- nobody has won more than one may
      few_of : ((c : ℕ) → k.callers ≤ c → get_or next.won_before.value c 0 ≡ 0) → (c : ℕ) → (opening_world next).won c ≤ MOST_WON
      few_of rest c = dite (dec_lt c k.callers)
          (λ (l : c < k.callers). let x = there_of c l in let unspent = x.1.unspent in
          subst (λ (z : ℕ). z ≤ MOST_WON)
          (sym (counts.won x.0 x.1 x.2) ∙ ap (λ (z : ℕ). get_or next.won_before.value z 0) x.3) (omega arith))
          (λ (h : ¬ (c < k.callers)).
          let none = rest c (omega arith) in omega arith)

  module _ (known : ∥ AreSettled k (map record_of callers) totals ∥₁) where
    -- each caller's number is below the number of callers
    pub numbers_below : (i : ℕ) (x : Caller R) → get_elem? callers i ≡ some x → x.number < k.callers
    numbers_below i x at = ∥∥₁_elim known le_prop (λ z. number_of z i x at)

    -- no two callers have one number
    pub own_numbers : HaveOwnNumbers callers
    own_numbers i j a b e f same = ∥∥₁_elim known (ℕ_set _ _) (λ z. once_of z i j a b e f same)

    -- no caller is missing
    pub no_missing : (n : ℕ) → n < k.callers → ¬ (¬ (Has (numbers_of callers) n))
    no_missing n l missing = ∥∥₁_elim known (λ a b. absurd a) (λ z. let x = there_of z n l in
        missing (x.0, at_map (λ (c : Caller R). c.number) callers x.0 x.1 x.2 ∙ ap some x.3))

    -- a next map may open with these counts
    pub may_open : (layout : Layout) (next : Shape) → IsNext layout k next → HasCounts callers next
        → ((c : ℕ) → k.callers ≤ c → get_or next.won_before.value c 0 ≡ 0) → totals.held ≡ 0 → totals.posted ≡ 0
        → IsOpening next
    may_open layout next is counts rest no_held no_posted = record {
      unspent = λ c. ∥∥₁_elim known le_prop (λ z. few_of z next counts rest c);
      even = subst (λ (z : ℕ). got_in z (opening_world next) ≡ back_in z (opening_world next)) (sym is.callers_is)
          (∥∥₁_elim known (ℕ_set _ _) (λ z. even_of z next counts no_held no_posted));
    }

    -- the chain goes on with the next map
    pub chain_on : (layout : Layout) (next : Shape) → IsNext layout k next → HasCounts callers next → HasChain R k
        → totals.held ≡ 0 → totals.posted ≡ 0 → HasChain R next
    chain_on layout next is counts chain no_held no_posted = ∥∥₁_elim known ∥∥₁_prop (λ z. ∥∥₁_map chain
        (λ (x : (older : List (Epoch R)) × IsChain k older). (
          (record { shape = k; history = z.history }) ∷ x.0,
          reopened (goes_on z next counts layout is no_held no_posted) x.1,
        )))

    -- in the next map all tags are free
    pub free_again : (m : Map R) (new : List (Caller R)) → m.shape.callers ≡ k.callers → AreReopened m callers new
        → AllFree m.shape (map record_of new)
    free_again m new same are = none_done m.shape (map record_of new)
        (λ c l missing. no_missing c (subst (λ (z : ℕ). c < z) same l) (λ w. missing (found c w)))
        (λ i r e. let b = entry_of_map (record_of {R = R}) new i r e in let a = mate i b.0 b.1 in
        ap (λ (z : Record R). z.steps) (sym b.2 ∙ (are.each i a.0 b.0 a.1 b.1).1))
      where
        -- the caller from which one of the new callers came
        mate : (i : ℕ) (b : Caller R) → get_elem? new i ≡ some b → (a : Caller R) × (get_elem? callers i ≡ some a)
        mate i b at = let low = within new i b at in let long = are.count in entry callers i (omega arith)

        -- each number stands in a new record
        found : (c : ℕ) → Has (numbers_of callers) c
            → (i : ℕ) × (r : Record R) × (get_elem? (map record_of new) i ≡ some r) × (r.number ≡ c)
        found c w =
            let a = entry_of_map (λ (z : Caller R). z.number) callers w.0 c w.1 in
            let low = within callers w.0 a.0 a.1 in let long = are.count in let b = entry new w.0 (omega arith) in (
              w.0,
              record_of b.0,
              at_map (record_of {R = R}) new w.0 b.0 b.1,
              ap (λ (z : Record R). z.number) (are.each w.0 a.0 b.0 a.1 b.1).1 ∙ a.2,
            )

-- what settle and reopen tell, put together: the callers' lists stand in a history that leads on to the next map
pub leads_on : {R : Type 0} (old next : Map R) (callers : List (Caller R)) (s : Settled R) → s.tags ≡ old
    → AreUnchanged callers s.callers.items → AreSettled s.tags.shape (map record_of s.callers.items) s.totals
    → GoesOnFrom s next.shape → LeadsOn old callers next
leads_on {R} old next callers s same kept known on = record {
  history = known.history;
  lists = λ i a at.
      let long = kept.count in let low = within callers i a at in let b = entry s.callers.items i (omega arith) in
      let is = (kept.each i a b.0 at b.1).known in
      ap (λ (z : Record R). z.steps) (sym is)
      ∙ (known.each i (record_of b.0) (at_map (record_of {R = R}) s.callers.items i b.0 b.1)).steps
      ∙ ap (λ (z : Record R). steps_by z.number known.history) is;
  chain = λ older is. reopened
      (subst (λ (z : Map R). GoesOn (record { shape = z.shape; history = known.history }) next.shape) same (on known)) is;
}
