-- Equal pools, and pools freed in several words.
use Rattle.std.specs.Prelude.{◌&&◌, ◌||◌, ◌∷◌, ◌≡◌, ◌≢◌}
use Rattle.tag_search.proofs.Uses.{[], ap, Bool, eq-eqb, false, freed_in, is_available, is_in, IsLeastAvailable, List, nat_eq, ne_eqb, not, Pool, refl, sym, taken_in, true, ℕ, ◌∙◌}

-- pools with the same places are equal
pub pool_ext : (p q : Pool) → ((i k : ℕ) → p.free i k ≡ q.free i k) → ((i k : ℕ) → p.aside i k ≡ q.aside i k) → p ≡ q
pool_ext p q free aside = λ z. record { free = λ i k. free i k z; aside = λ i k. aside i k z }

pub or_false : (a : Bool) → (a || false) ≡ a
or_false true = refl
or_false false = refl

pub and_true : (a : Bool) → (a && true) ≡ a
and_true true = refl
and_true false = refl

pub and_false : (a : Bool) → (a && false) ≡ false
and_false true = refl
and_false false = refl

free_twice : (f a x y : Bool) → ((f || (x && a)) || (y && (not x && a))) ≡ (f || ((x || y) && a))
free_twice true a x y = refl
free_twice false true true y = refl
free_twice false true false y = refl
free_twice false false true true = refl
free_twice false false true false = refl
free_twice false false false true = refl
free_twice false false false false = refl

aside_twice : (a x y : Bool) → (not y && (not x && a)) ≡ (not (x || y) && a)
aside_twice a true true = refl
aside_twice a true false = refl
aside_twice a false true = refl
aside_twice a false false = refl

-- freeing in some words and then in others frees in all of them
pub freed_twice : (xs ys zs : List ℕ) (p : Pool) → ((i : ℕ) → (is_in i xs || is_in i ys) ≡ is_in i zs)
    → freed_in ys (freed_in xs p) ≡ freed_in zs p
freed_twice xs ys zs p both = pool_ext (freed_in ys (freed_in xs p)) (freed_in zs p)
    (λ i k. free_twice (p.free i k) (p.aside i k) (is_in i xs) (is_in i ys)
    ∙ ap (λ (b : Bool). p.free i k || (b && p.aside i k)) (both i))
    (λ i k. aside_twice (p.aside i k) (is_in i xs) (is_in i ys) ∙ ap (λ (b : Bool). not b && p.aside i k) (both i))

-- one word, and then others
pub freed_before : (x : ℕ) (ys : List ℕ) (p : Pool) → freed_in ys (freed_in (x ∷ []) p) ≡ freed_in (x ∷ ys) p
freed_before x ys p = freed_twice (x ∷ []) ys (x ∷ ys) p
    (λ i. ap (λ (b : Bool). b || is_in i ys) (or_false (nat_eq i x)))

swapped : (a b c : Bool) → ((a || false) || (b || c)) ≡ (b || (a || c))
swapped true true c = refl
swapped true false c = refl
swapped false true c = refl
swapped false false c = refl

pub freed_between : (x y : ℕ) (ys : List ℕ) (p : Pool) → freed_in (y ∷ ys) (freed_in (x ∷ []) p) ≡ freed_in
    (y ∷ x ∷ ys) p
freed_between x y ys p = freed_twice (x ∷ []) (y ∷ ys) (y ∷ x ∷ ys) p
    (λ i. swapped (nat_eq i x) (nat_eq i y) (is_in i ys))

-- no words
pub freed_none : (p : Pool) → freed_in [] p ≡ p
freed_none p = pool_ext (freed_in [] p) p (λ i k. or_false (p.free i k)) (λ i k. refl)

-- taking the same places
pub taken_same : (i : ℕ) (these those : ℕ → Bool) (p : Pool) → ((k : ℕ) → these k ≡ those k)
    → taken_in i these p ≡ taken_in i those p
taken_same i these those p same = λ z. taken_in i (λ k. same k z) p

available_still : (f a x : Bool) → ((f || (x && a)) || (not x && a)) ≡ (f || a)
available_still true a x = refl
available_still false true true = refl
available_still false true false = refl
available_still false false true = refl
available_still false false false = refl

-- freeing words changes no place from available to busy or back
pub available_freed : (xs : List ℕ) (p : Pool) (i k : ℕ) → is_available (freed_in xs p) i k ≡ is_available p i k
available_freed xs p i k = available_still (p.free i k) (p.aside i k) (is_in i xs)

-- after a word is freed, its free places are those that were available
pub free_here : (p : Pool) (i k : ℕ) → (freed_in (i ∷ []) p).free i k ≡ is_available p i k
free_here p i k = ap (λ (b : Bool). p.free i k || ((b || false) && p.aside i k)) (eq-eqb i i refl)

-- the free places of other words are unchanged
pub free_elsewhere : (x : ℕ) (p : Pool) (i k : ℕ) → i ≢ x → (freed_in (x ∷ []) p).free i k ≡ p.free i k
free_elsewhere x p i k ne = ap (λ (b : Bool). p.free i k || ((b || false) && p.aside i k)) (ne_eqb i x ne)
    ∙ or_false (p.free i k)

pub aside_elsewhere : (x : ℕ) (p : Pool) (i k : ℕ) → i ≢ x → (freed_in (x ∷ []) p).aside i k ≡ p.aside i k
aside_elsewhere x p i k ne = ap (λ (b : Bool). not (b || false) && p.aside i k) (ne_eqb i x ne)

-- the least available place is the same in pools with the same available places
pub least_same : (p q : Pool) (i depth place : ℕ) → ((k : ℕ) → is_available p i k ≡ is_available q i k)
    → IsLeastAvailable p i depth place → IsLeastAvailable q i depth place
least_same p q i depth place same least = record {
  within = least.within;
  is = sym (same place) ∙ least.is;
  least = λ k h. sym (same k) ∙ least.least k h;
}

-- a place that is available but not free is set aside
pub aside_of_open : (f a : Bool) → f ≡ false → (f || a) ≡ true → a ≡ true
aside_of_open true a e may = absurd (let no : true ≡ false = e in cc)
aside_of_open false a e may = may
