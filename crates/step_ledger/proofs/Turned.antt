-- Lists in the other order, as they come off the end one by one, and what stands in them.
use Rattle.std.specs.Prelude.{◌++◌, ◌+◌, ◌<◌, ◌∷◌, ◌≡◌, ◌≢◌}
use Rattle.step_ledger.proofs.Uses.{[], All, ap, arith, at_longer, both_views, get_elem?, get_or, Has, HasAll, length, length-append, List, map, numbers, own_view, Record, Records, refl, some, some-injective, some-ne-none, subst, suc, sum_over, sym, turned, zero, ℕ, ◌∙◌}
use mathlib.Core.List.{map-append}
use Rattle.step_ledger.proofs.Seats.{append_second}
use Rattle.step_ledger.proofs.Whole.{has_record}

module _ {A : Type 0} where
  -- the last comes first
  pub turned_last : (xs : List A) (x : A) → turned (xs ++ x ∷ []) ≡ x ∷ turned xs
  turned_last [] x = refl
  turned_last (y ∷ xs) x = ap (λ (l : List A). l ++ y ∷ []) (turned_last xs x)

  -- turned twice is as it was
  pub turned_back : (xs : List A) → turned (turned xs) ≡ xs
  turned_back [] = refl
  turned_back (x ∷ xs) = turned_last (turned xs) x ∙ ap (λ (l : List A). x ∷ l) (turned_back xs)

  pub at_turned : (xs : List A) (i : ℕ) (a : A) → get_elem? xs i ≡ some a → (j : ℕ) × (get_elem? (turned xs) j ≡ some a)
  at_turned [] i a e = absurd (some-ne-none a (sym e))
  at_turned (x ∷ xs) zero a e = (length (turned xs) + 0, append_second (turned xs) (x ∷ []) 0 ∙ e)
  at_turned (x ∷ xs) (suc i) a e = let w = at_turned xs i a e in (w.0, at_longer (turned xs) (x ∷ []) w.0 a w.1)

  get_front : (xs ys : List A) (k : ℕ) (d : A) → k < length xs → get_or (xs ++ ys) k d ≡ get_or xs k d
  get_front [] ys k d h = absurd (omega arith)
  get_front (x ∷ xs) ys zero d h = refl
  get_front (x ∷ xs) ys (suc k) d h = get_front xs ys k d (omega arith)

  get_last : (xs : List A) (x d : A) → get_or (xs ++ x ∷ []) (length xs) d ≡ x
  get_last [] x d = refl
  get_last (y ∷ xs) x d = get_last xs x d

  pub all_front : (P : A → Type 0) (xs : List A) (x : A) → All P (xs ++ x ∷ []) → All P xs
  all_front P xs x h k d l = subst P (get_front xs (x ∷ []) k d l) (h k d (let e = length-append xs (x ∷ []) in
      omega arith))

  pub all_last : (P : A → Type 0) (xs : List A) (x : A) → All P (xs ++ x ∷ []) → P x
  all_last P xs x h = subst P (get_last xs x x) (h (length xs) x (let e = length-append xs (x ∷ []) in omega arith))

-- what is taken off the end of a list comes last
pub taken_first : {A B : Type 0} (f : A → B) (xs left : List A) (x : A) → xs ≡ left ++ x ∷ []
    → map f left ++ f x ∷ [] ≡ map f xs
taken_first f xs left x e = sym (map-append f left (x ∷ [])) ∙ ap (map f) (sym e)

-- where members have all numbers, their records have
pub numbers_all : {A T : Type 0} (record_of : A → Record T) (number_of : A → ℕ)
    → ((a : A) → (record_of a).number ≡ number_of a) → (xs : List A) (rs : List (Record T)) (n : ℕ)
    → rs ≡ map record_of xs → HasAll (map number_of xs) n → HasAll (numbers rs) n
numbers_all {A} {T} record_of number_of same xs rs n are all = subst (λ (ns : List ℕ). HasAll ns n)
    (sym (ap numbers are ∙ numbers_map xs)) all
  where
    numbers_map : (xs : List A) → numbers (map record_of xs) ≡ map number_of xs
    numbers_map [] = refl
    numbers_map (x ∷ xs) = λ j. same x j ∷ numbers_map xs j

module _ {T : Type 0} where
  pub sum_append : (f : List T → ℕ) (rs qs : List (Record T)) → sum_over f (rs ++ qs) ≡ sum_over f rs + sum_over f qs
  sum_append f [] qs = omega arith
  sum_append f (r ∷ rs) qs = let e = sum_append f rs qs in omega arith

  pub sum_turned : (f : List T → ℕ) (rs : List (Record T)) → sum_over f (turned rs) ≡ sum_over f rs
  sum_turned f [] = refl
  sum_turned f (r ∷ rs) = let e = sum_append f (turned rs) (r ∷ []) in let i = sum_turned f rs in omega arith

  -- where one member's seat was joined to another, its record is the newest
  pub joined : (v w now : Records T) (r : Record T) → now ≡ both_views v w → w ≡ own_view r
      → turned now.records.value ≡ r ∷ turned v.records.value
  joined v w now r is one = ap (λ (z : Records T). turned z.records.value) (is ∙ ap (both_views v) one)
      ∙ turned_last v.records.value r

  pub sum_joined : (f : List T → ℕ) (v w now : Records T) (r : Record T) → now ≡ both_views v w → w ≡ own_view r
      → sum_over f now.records.value ≡ sum_over f v.records.value + f r.steps
  sum_joined f v w now r is one = let e = sum_append f v.records.value (r ∷ []) in
      let j = ap (λ (z : Records T). sum_over f z.records.value) (is ∙ ap (both_views v) one) in omega arith

  pub at_number : (rs : List (Record T)) (i : ℕ) (r : Record T) → get_elem? rs i ≡ some r
      → get_elem? (numbers rs) i ≡ some r.number
  at_number [] i r e = absurd (some-ne-none r (sym e))
  at_number (q ∷ rs) zero r e = ap (λ (x : Record T). some x.number) (some-injective q r e)
  at_number (q ∷ rs) (suc i) r e = at_number rs i r e

  pub has_turned : (rs : List (Record T)) (c : ℕ) → Has (numbers rs) c → Has (numbers (turned rs)) c
  has_turned rs c h = let a = has_record (λ (r : Record T). r.number) rs c h in let b = at_turned rs a.0 a.1 a.2 in
      (b.0, at_number (turned rs) b.0 a.1 b.1 ∙ ap some a.3)

-- where a number is there, a member is
pub some_there : {A : Type 0} (number_of : A → ℕ) (xs : List A) (n : ℕ) → HasAll (map number_of xs) n → 0 < n → xs ≢ []
some_there number_of xs n all less none = let first = all 0 less in
    some-ne-none 0 (sym (subst (λ (ys : List _). get_elem? (map number_of ys) first.0 ≡ some 0) none first.1))

-- what stands at no index isn't there
pub nowhere : (ns : List ℕ) (c : ℕ) → ((i : ℕ) → i < length ns → get_elem? ns i ≢ some c) → ¬ Has ns c
nowhere ns c none h = none h.0 (at_some ns h.0 c h.1) h.1
  where
    at_some : (ns : List ℕ) (i c : ℕ) → get_elem? ns i ≡ some c → i < length ns
    at_some [] i c e = absurd (some-ne-none c (sym e))
    at_some (x ∷ ns) zero c e = omega arith
    at_some (x ∷ ns) (suc i) c e = let w = at_some ns i c e in omega arith
