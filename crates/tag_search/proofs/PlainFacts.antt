-- All plain words after a write to one of them.
use Rattle.tag_search.proofs.Uses.{[], AddsSteps, and_pow, ap, arith, bit_and, bit_at, bit_is, bit_or, Bool, changed_at, Claimed, cond, dite, eq-eqb, eqb-true, false, get_or, get_or-set_other, get_or-set_same, Give, inl, inr, IsSweep, IsTaken, IsTrue, Keep, length, List, LookAside, nat_eq, ne_eqb}
use Rattle.tag_search.proofs.Uses.{Plain, pow_pos, Put, refl, RunsAlone, set, Spill, subst, Swap, sym, true, unseen, without, ℕ, ℕ_discrete, ◌∙◌}
use Rattle.std.specs.Prelude.{not, ◌*◌, ◌<◌, ◌^◌, ◌↔◌, ◌∷◌, ◌≡◌, ◌≢◌}
use Rattle.tag_search.proofs.Seen.{Reads}

-- a list with one entry changed, as a function of the index
pub set_changed : (xs : List ℕ) (i v : ℕ) → i < length xs → (λ (j : ℕ). get_or (set xs i v) j 0) ≡ changed_at
    (λ j. get_or xs j 0) i v
set_changed xs i v h = λ z j. each j z
  where
    each : (j : ℕ) → get_or (set xs i v) j 0 ≡ cond (nat_eq j i) v (get_or xs j 0)
    each j = dite (ℕ_discrete j i)
        (λ e. ap (λ (k : ℕ). get_or (set xs i v) k 0) e ∙ get_or-set_same xs i v 0 h
        ∙ ap (λ (b : Bool). cond b v (get_or xs j 0)) (sym (eq-eqb j i e)))
        (λ ne. get_or-set_other xs i j v 0 ne ∙ ap (λ (b : Bool). cond b v (get_or xs j 0)) (sym (ne_eqb j i ne)))

-- the same for an entry that becomes a function of what was found there
written : (xs : List ℕ) (i found : ℕ) (change : ℕ → ℕ) → Reads xs i found
    → (λ (j : ℕ). get_or (set xs i (change found)) j 0) ≡ changed_at (λ j. get_or xs j 0) i (change (get_or xs i 0))
written xs i found change has =
    set_changed xs i (change found) has.within ∙ ap (λ (x : ℕ). changed_at (λ j. get_or xs j 0) i (change x)) has.is

-- a claim writes its word
pub ran_claim : (p : Plain) (i mask found : ℕ) → Reads p.word i found
    → RunsAlone p (Claimed i mask found ∷ []) (record p { word = set p.word i (bit_or found mask) })
ran_claim p i mask found has = let now = written p.word i found (λ x. bit_or x mask) has in record {
  layout = refl;
  quiet = (has.is, tt);
  leaves = λ z. record { word = now z; aside = λ j. get_or p.aside j 0 };
}

-- a give writes its word
pub ran_give : (p : Plain) (i mask found : ℕ) → Reads p.word i found
    → RunsAlone p (Give i mask found ∷ []) (record p { word = set p.word i (without found mask) })
ran_give p i mask found has = let now = written p.word i found (λ x. without x mask) has in record {
  layout = refl;
  quiet = (has.is, tt);
  leaves = λ z. record { word = now z; aside = λ j. get_or p.aside j 0 };
}

-- a put writes the cleared set
pub ran_put : (p : Plain) (i mask found : ℕ) → Reads p.aside i found
    → RunsAlone p (Put i mask found ∷ []) (record p { aside = set p.aside i (bit_or found mask) })
ran_put p i mask found has = let now = written p.aside i found (λ x. bit_or x mask) has in record {
  layout = refl;
  quiet = (has.is, tt);
  leaves = λ z. record { word = λ j. get_or p.word j 0; aside = now z };
}

-- the same, where the set and the bit have other names
pub ran_put_at : (p : Plain) (i r place bit found : ℕ) → r ≡ i → bit ≡ 2 ^ place → Reads p.aside r found
    → RunsAlone p (Put i (2 ^ place) found ∷ []) (record p { aside = set p.aside r (bit_or found bit) })
ran_put_at p i r place bit found e b has =
    subst (λ (x : ℕ × ℕ). RunsAlone p (Put x.0 x.1 found ∷ []) (record p { aside = set p.aside r (bit_or found bit) }))
    (λ j. (e j, b j)) (ran_put p r bit found has)

-- a sweep that finds nothing writes nothing
pub ran_empty : (p : Plain) (i : ℕ) → get_or p.aside i 0 ≡ 0 → RunsAlone p (LookAside i 0 ∷ []) p
ran_empty p i e = record { layout = refl; quiet = (sym e, tt); leaves = refl }

pub sweeps_none : (p : Plain) (i mask : ℕ) → Reads p.aside i mask → mask ≡ 0 → AddsSteps RunsAlone p p (IsSweep i 0)
sweeps_none p i mask aside none =
    record { steps = LookAside i 0 ∷ []; added = ran_empty p i (sym aside.is ∙ none); holds = unseen }

-- a sweep that finds a mask writes both
pub ran_sweep : (p : Plain) (i mask found : ℕ) → Reads p.word i found → Reads p.aside i mask
    → RunsAlone p (LookAside i mask ∷ Swap i mask ∷ Spill i mask found ∷ [])
    (record p { word = set p.word i (without found mask); aside = set p.aside i 0 })
ran_sweep p i mask found word aside = let now = written p.word i found (λ x. without x mask) word in record {
  layout = refl;
  quiet = (aside.is, (aside.is, (word.is, tt)));
  leaves = λ z. record { word = now z; aside = set_changed p.aside i 0 aside.within z };
}

-- one that keeps all that it found writes the cleared set
pub ran_kept : (p : Plain) (i mask bit : ℕ) → Reads p.aside i mask
    → RunsAlone p (LookAside i mask ∷ Swap i mask ∷ Keep i bit ∷ []) (record p { aside = set p.aside i 0 })
ran_kept p i mask bit aside = record {
  layout = refl;
  quiet = (aside.is, (aside.is, (tt, tt)));
  leaves = λ z. record { word = λ j. get_or p.word j 0; aside = set_changed p.aside i 0 aside.within z };
}

-- and one that keeps a part writes both
pub ran_keeping : (p : Plain) (i mask bit rest found : ℕ) → Reads p.word i found → Reads p.aside i mask
    → RunsAlone p (LookAside i mask ∷ Swap i mask ∷ Keep i bit ∷ Spill i rest found ∷ [])
    (record p { word = set p.word i (without found rest); aside = set p.aside i 0 })
ran_keeping p i mask bit rest found word aside = let now = written p.word i found (λ x. without x rest) word in record {
  layout = refl;
  quiet = (aside.is, (aside.is, (tt, (word.is, tt))));
  leaves = λ z. record { word = now z; aside = set_changed p.aside i 0 aside.within z };
}

-- a word masked with one bit is 0 exactly if the bit is clear
mask_of_clear : (n k : ℕ) → bit_at n k ≡ 0 → bit_and n (2 ^ k) ≡ 0
mask_of_clear n k e = and_pow n k ∙ ap (λ (x : ℕ). x * 2 ^ k) e ∙ omega arith

pub clear_of_mask : (n k : ℕ) → bit_and n (2 ^ k) ≡ 0 → bit_at n k ≡ 0
clear_of_mask n k e = elim (bit_is n k) [
  | inl one ↦ absurd (let all : bit_and n (2 ^ k) ≡ 2 ^ k = and_pow n k ∙ ap (λ (x : ℕ). x * 2 ^ k) one ∙ omega arith in
      let pos : 0 < 2 ^ k = pow_pos k in omega arith)
  | inr none ↦ none
]

pub taken_of_mask : (n k : ℕ) → bit_and n (2 ^ k) ≢ 0 → bit_at n k ≡ 1
taken_of_mask n k ne = elim (bit_is n k) [ inl one ↦ one | inr none ↦ absurd (ne (mask_of_clear n k none)) ]

-- a place whose bit is set is taken exactly if it is not set aside
pub tells_taken : (p : Plain) (i k n a bit : ℕ) → bit ≡ 2 ^ k → n ≡ get_or p.word i 0 → a ≡ get_or p.aside i 0
    → bit_and n bit ≢ 0
    → IsTrue (nat_eq (bit_and a bit) 0) ↔ IsTaken p i k
tells_taken p i k n a bit b e f some = (
  λ t. record {
    taken = taken_of_mask (get_or p.word i 0) k
        (λ z. some (ap (bit_and n) b ∙ ap (λ (x : ℕ). bit_and x (2 ^ k)) e ∙ z));
    not_aside = clear_of_mask (get_or p.aside i 0) k (sym (ap (bit_and a) b ∙ ap (λ (x : ℕ). bit_and x (2 ^ k)) f)
        ∙ eqb-true (bit_and a bit) 0 t);
  },
  λ is. eq-eqb (bit_and a bit) 0 (ap (bit_and a) b ∙ ap (λ (x : ℕ). bit_and x (2 ^ k)) f
      ∙ mask_of_clear (get_or p.aside i 0) k is.not_aside),
)

-- a place whose bit is clear is not taken
pub tells_free : (p : Plain) (i k n bit : ℕ) → bit ≡ 2 ^ k → n ≡ get_or p.word i 0 → bit_and n bit ≡ 0
    → IsTrue (not (nat_eq (bit_and n bit) 0)) ↔ IsTaken p i k
tells_free p i k n bit b e none =
    let clear : bit_at (get_or p.word i 0) k ≡ 0 = clear_of_mask (get_or p.word i 0) k
    (sym (ap (bit_and n) b ∙ ap (λ (x : ℕ). bit_and x (2 ^ k)) e) ∙ none) in (
      λ t. absurd (let no : not (nat_eq (bit_and n bit) 0) ≡ false = ap not (eq-eqb (bit_and n bit) 0 none) in
          let yes : not (nat_eq (bit_and n bit) 0) ≡ true = t in cc),
      λ is. absurd (let one = is.taken in omega arith),
    )
