-- What the last state tells where one seat has the records of all members.
use Rattle.std.specs.Prelude.{◌<◌, ◌≡◌}
use Rattle.step_ledger.proofs.Uses.{ap, AreListsOf, Final, get_elem?, Has, Lawful, Ledger, List, numbers, own_steps, Record, Records, Seen, some, State, subst, sum_below, sum_over, sym, turned, words_left, ℕ, ◌∙◌}
use Rattle.step_ledger.proofs.Whole.{has_record, total_of_all}
use Rattle.step_ledger.proofs.Turned.{at_turned, has_turned, sum_turned}

-- the records rs are those of all members of a history that leaves these words
pub record Gathered {T : Type 0} (n : ℕ) (start : List ℕ) (after : T → List ℕ → List ℕ) (MayStep : ℕ → T → List (ℕ × T)
    → Type 0) (words : List ℕ) (rs : List (Record T)) : Type 0 where
  pub history : List (ℕ × T)
  pub lawful : Lawful n MayStep history
  pub words_are : words ≡ words_left start after history
  pub lists : AreListsOf history rs
  pub sums : (f : List T → ℕ) → sum_over f rs ≡ sum_below (λ c. f (own_steps c history)) n

module _ {S T : Type 0} (n : ℕ) (start : List ℕ) (after : T → List ℕ → List ℕ) (MayStep : ℕ → T
    → List (ℕ × T) → Type 0) where
  sums_of : (s : State S (Records T)) (k : Ledger n start after MayStep s) (id : ℕ) (v : Records T)
      → get_elem? s.views id ≡ some v → ((c : ℕ) → c < n → Has (numbers v.records.value) c)
      → (f : List T → ℕ) → sum_over f v.records.value ≡ sum_below (λ c. f (own_steps c k.history)) n
  sums_of s k id v at has f = let rs = v.records.value in
      total_of_all (λ (r : Record T). r.number) n rs k.position
      (λ i r e. let o = k.records id v at i r e in (o.0, o.3)) (λ c l. has_record (λ (r : Record T). r.number) rs c (has c l))
      (λ c. f (own_steps c k.history)) (λ (r : Record T). f r.steps) (λ i r e. ap f (k.records id v at i r e).1)

  -- the members were taken from the end of a list, and their records put behind one another
  pub gathered : (id : ℕ) (v : Records T) (words : List ℕ) (slots : List S) (rs : List (Record T))
      → Final (Seen (Ledger n start after MayStep) id v) words slots → v.records.value ≡ turned rs
      → ((c : ℕ) → c < n → Has (numbers rs) c) → Gathered n start after MayStep words rs
  gathered id v words slots rs last is has = let s = last.0 in let k = last.1.0 in let at = last.1.1 in
      let all : (c : ℕ) → c < n → Has (numbers v.records.value) c =
      (λ c l. subst (λ (z : List (Record T)). Has (numbers z) c) (sym is) (has_turned rs c (has c l))) in record {
        history = k.history;
        lawful = k.lawful;
        words_are = sym last.2 ∙ k.words_are;
        lists = λ i r e. let t = at_turned rs i r e in
            (k.records id v at t.0 r (ap (λ (z : List (Record T)). get_elem? z t.0) is ∙ t.1)).1;
        sums = λ f. sym (sum_turned f rs) ∙ ap (sum_over f) (sym is) ∙ sums_of s k id v at all f;
      }
