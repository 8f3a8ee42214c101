-- The bits of a list of words after one write, and that the words stay tidy.
use Rattle.std.specs.Prelude.{◌-◌, ◌<◌, ◌^◌, ◌≡◌, ◌≢◌}
use Rattle.tag_search.proofs.Uses.{ap, arith, bit_at, bit_at-lt, bit_at-pow_same, bit_at-zero, bit_at_above, bit_at_and, bit_at_or, bit_is, bit_or, dec_lt, dite, get_or, get_or-set_other, get_or-set_same, inl, inr, IsIn, IsTidy, IsWithin, length, length-set, List, min, Plain, set, subst, sym}
use Rattle.tag_search.proofs.Uses.{without, word_depth, WritesBits, ℕ, ℕ_discrete, ◌∙◌}
use Rattle.tag_search.proofs.OneTag.{one_place}
use Rattle.tag_search.proofs.Seen.{Reads}
use Rattle.tag_search.proofs.Sweeps.{bit_without}

-- a bit that is not in a mask is 0 there
pub bit_out : (mask k : ℕ) → ¬ IsIn mask k → bit_at mask k ≡ 0
bit_out mask k out = elim (bit_is mask k) [ inl one ↦ absurd (out one) | inr none ↦ none ]

-- a place of a mask is below its width
pub in_below : (mask depth k : ℕ) → mask < 2 ^ depth → IsIn mask k → k < depth
in_below mask depth k fits one = dite (dec_lt k depth) (λ h. h)
    (λ no. let none = bit_at_above mask depth k fits (omega arith) in absurd (omega arith))

-- one entry is written, and the others are unchanged
other_entries : (xs : List ℕ) (i v j : ℕ) → j ≢ i → get_or (set xs i v) j 0 ≡ get_or xs j 0
other_entries xs i v j ne = get_or-set_other xs i j v 0 ne

-- bits or-ed into a word
pub writes_or : (xs : List ℕ) (i v mask : ℕ) → Reads xs i v
    → WritesBits xs (set xs i (bit_or v mask)) i (IsIn mask) 1
writes_or xs i v mask has =
    let here : get_or (set xs i (bit_or v mask)) i 0 ≡ bit_or v mask =
    get_or-set_same xs i (bit_or v mask) 0 has.within in
    record {
      there = λ k one. let b = bit_at_or v mask k in let l = bit_at-lt v k in
          ap (λ (x : ℕ). bit_at x k) here ∙ omega arith;
      beside = λ k out. let none = bit_out mask k out in let b = bit_at_or v mask k in
          ap (λ (x : ℕ). bit_at x k) here ∙ (let same : bit_at (bit_or v mask) k ≡ bit_at v k = omega arith in
          same ∙ ap (λ (x : ℕ). bit_at x k) has.is);
      others = λ j ne. other_entries xs i (bit_or v mask) j ne;
    }

-- a bit of a word without those of a mask
pub bit_at_without : (v mask k : ℕ) → v < 2 ^ 64 → mask < 2 ^ 64 → bit_at (without v mask) k ≡ min (bit_at v k)
    (1 - bit_at mask k)
bit_at_without v mask k fits narrow = dite (dec_lt k 64)
    (λ (low : k < 64). bit_without v mask k narrow low)
    (λ high. let none = bit_at_above v 64 k fits (omega arith) in let b = bit_at_and v (2 ^ 64 - 1 - mask) k in
    omega arith)

-- bits removed from a word
pub writes_without : (xs : List ℕ) (i v mask : ℕ) → Reads xs i v → v < 2 ^ 64 → mask < 2 ^ 64
    → WritesBits xs (set xs i (without v mask)) i (IsIn mask) 0
writes_without xs i v mask has fits narrow =
    let here : get_or (set xs i (without v mask)) i 0 ≡ without v mask =
    get_or-set_same xs i (without v mask) 0 has.within in
    record {
      there = λ k one. let b = bit_at_without v mask k fits narrow in ap (λ (x : ℕ). bit_at x k) here ∙ omega arith;
      beside = λ k out. let none = bit_out mask k out in let b = bit_at_without v mask k fits narrow in
          let l = bit_at-lt v k in
          ap (λ (x : ℕ). bit_at x k) here ∙ (let same : bit_at (without v mask) k ≡ bit_at v k = omega arith in
          same ∙ ap (λ (x : ℕ). bit_at x k) has.is);
      others = λ j ne. other_entries xs i (without v mask) j ne;
    }

-- an equivalent set of places
pub writes_where : (xs ys : List ℕ) (i b : ℕ) (P Q : ℕ → Type 0) → ((k : ℕ) → Q k → P k) → ((k : ℕ) → P k → Q k)
    → WritesBits xs ys i P b → WritesBits xs ys i Q b
writes_where xs ys i b P Q f g w = record {
  there = λ k q. w.there k (f k q);
  beside = λ k no. w.beside k (λ p. no (g k p));
  others = w.others;
}

-- a power of two has its bit
place_is : (place k : ℕ) → k ≡ place → IsIn (2 ^ place) k
place_is place k e = ap (bit_at (2 ^ place)) e ∙ bit_at-pow_same place

-- a claim of places within the word's depth
pub tidy_claim : (p : Plain) (new : List ℕ) (i mask : ℕ) → IsTidy p → length new ≡ length p.word
    → IsWithin p.layout i mask → WritesBits p.word new i (IsIn mask) 1 → IsTidy (record p { word = new })
tidy_claim p new i mask tidy long fits w = record {
  word_count = long ∙ tidy.word_count;
  aside_count = tidy.aside_count;
  within = λ j k one. dite (ℕ_discrete j i)
      (λ (e : j ≡ i). let here : bit_at (get_or new i 0) k ≡ 1 = subst (λ (x : ℕ). bit_at (get_or new x 0) k ≡ 1) e
      one in
      subst (λ (x : ℕ). k < word_depth p.layout x) (sym e) (elim (bit_is mask k) [
        | inl is ↦ in_below mask (word_depth p.layout i) k fits is
        | inr out ↦ tidy.within i k (sym (w.beside k (λ is. absurd (omega arith))) ∙ here)
      ]))
      (λ ne. tidy.within j k (sym (ap (λ (x : ℕ). bit_at x k) (w.others j ne)) ∙ one));
  taken = λ j k aside. let was = tidy.taken j k aside in dite (ℕ_discrete j i)
      (λ (e : j ≡ i). let before : bit_at (get_or p.word i 0) k ≡ 1 =
      subst (λ (x : ℕ). bit_at (get_or p.word x 0) k ≡ 1) e was in
      subst (λ (x : ℕ). bit_at (get_or new x 0) k ≡ 1) (sym e) (elim (bit_is mask k) [
        | inl is ↦ w.there k is
        | inr out ↦ w.beside k (λ is. absurd (omega arith)) ∙ before
      ]))
      (λ ne. ap (λ (x : ℕ). bit_at x k) (w.others j ne) ∙ was);
}

-- places cleared, none of which is still set aside
pub tidy_clear : (p : Plain) (new aside : List ℕ) (i mask : ℕ) → IsTidy p → length new ≡ length p.word
    → length aside ≡ length p.aside → WritesBits p.word new i (IsIn mask) 0
    → ((j k : ℕ) → bit_at (get_or aside j 0) k ≡ 1 → bit_at (get_or p.aside j 0) k ≡ 1)
    → ((k : ℕ) → bit_at (get_or aside i 0) k ≡ 1 → ¬ IsIn mask k)
    → IsTidy (record p { word = new; aside = aside })
tidy_clear p new aside i mask tidy long broad w fewer apart = record {
  word_count = long ∙ tidy.word_count;
  aside_count = broad ∙ tidy.aside_count;
  within = λ j k one. dite (ℕ_discrete j i)
      (λ (e : j ≡ i). let here : bit_at (get_or new i 0) k ≡ 1 = subst (λ (x : ℕ). bit_at (get_or new x 0) k ≡ 1) e
      one in
      subst (λ (x : ℕ). k < word_depth p.layout x) (sym e) (elim (bit_is mask k) [
        | inl is ↦ absurd (let none = w.there k is in omega arith)
        | inr out ↦ tidy.within i k (sym (w.beside k (λ is. absurd (omega arith))) ∙ here)
      ]))
      (λ ne. tidy.within j k (sym (ap (λ (x : ℕ). bit_at x k) (w.others j ne)) ∙ one));
  taken = λ j k still. let was = tidy.taken j k (fewer j k still) in dite (ℕ_discrete j i)
      (λ (e : j ≡ i). let before : bit_at (get_or p.word i 0) k ≡ 1 =
      subst (λ (x : ℕ). bit_at (get_or p.word x 0) k ≡ 1) e was in
      let here : bit_at (get_or aside i 0) k ≡ 1 = subst (λ (x : ℕ). bit_at (get_or aside x 0) k ≡ 1) e still in
      subst (λ (x : ℕ). bit_at (get_or new x 0) k ≡ 1) (sym e) (w.beside k (apart k here) ∙ before))
      (λ ne. ap (λ (x : ℕ). bit_at x k) (w.others j ne) ∙ was);
}

-- a taken place set aside
pub tidy_put : (p : Plain) (aside : List ℕ) (i place : ℕ) → IsTidy p → length aside ≡ length p.aside
    → bit_at (get_or p.word i 0) place ≡ 1 → WritesBits p.aside aside i (λ k. k ≡ place) 1
    → IsTidy (record p { aside = aside })
tidy_put p aside i place tidy broad was w = record {
  word_count = tidy.word_count;
  aside_count = broad ∙ tidy.aside_count;
  within = tidy.within;
  taken = λ j k one. dite (ℕ_discrete j i)
      (λ (e : j ≡ i). let here : bit_at (get_or aside i 0) k ≡ 1 = subst (λ (x : ℕ). bit_at (get_or aside x 0) k ≡ 1) e
      one in
      subst (λ (x : ℕ). bit_at (get_or p.word x 0) k ≡ 1) (sym e) (dite (ℕ_discrete k place)
      (λ (is : k ≡ place). subst (λ (x : ℕ). bit_at (get_or p.word i 0) x ≡ 1) (sym is) was)
      (λ no. tidy.taken i k (sym (w.beside k no) ∙ here))))
      (λ ne. tidy.taken j k (sym (ap (λ (x : ℕ). bit_at x k) (w.others j ne)) ∙ one));
}

-- a bit or-ed into a word, stated by the word's index and the bit's place
pub writes_place : (xs : List ℕ) (r i found bit place : ℕ) → r ≡ i → bit ≡ 2 ^ place → Reads xs r found
    → WritesBits xs (set xs r (bit_or found bit)) i (λ k. k ≡ place) 1
writes_place xs r i found bit place e b has =
    let new : List ℕ = set xs r (bit_or found bit) in
    subst (λ (x : ℕ). WritesBits xs new x (λ k. k ≡ place) 1) e
    (writes_where xs new r 1 (IsIn bit) (λ k. k ≡ place)
    (λ k q. subst (λ (x : ℕ). IsIn x k) (sym b) (place_is place k q))
    (λ k q. one_place place k (subst (λ (x : ℕ). IsIn x k) b q))
    (writes_or xs r found bit has))

-- a sweep that emptied the cleared set, and removed a mask from the word
pub tidy_sweep : (p : Plain) (i mask seen found : ℕ) → IsTidy p → Reads p.word i found → Reads p.aside i seen
    → found < 2 ^ 64 → mask < 2 ^ 64
    → IsTidy (record p { word = set p.word i (without found mask); aside = set p.aside i 0 })
tidy_sweep p i mask seen found tidy word aside fits narrow =
    let empty : get_or (set p.aside i 0) i 0 ≡ 0 = get_or-set_same p.aside i 0 0 aside.within in
    let none : (k : ℕ) → bit_at (get_or (set p.aside i 0) i 0) k ≡ 0 = λ k. ap (λ (x : ℕ). bit_at x k) empty
    ∙ bit_at-zero k in
    tidy_clear p (set p.word i (without found mask)) (set p.aside i 0) i mask tidy
    (length-set p.word i (without found mask)) (length-set p.aside i 0)
    (writes_without p.word i found mask word fits narrow)
    (λ j k one. dite (ℕ_discrete j i)
    (λ (e : j ≡ i). absurd (let here : bit_at (get_or (set p.aside i 0) i 0) k ≡ 1 =
    subst (λ (x : ℕ). bit_at (get_or (set p.aside i 0) x 0) k ≡ 1) e one in let z = none k in omega arith))
    (λ ne. sym (ap (λ (x : ℕ). bit_at x k) (other_entries p.aside i 0 j ne)) ∙ one))
    (λ k one. absurd (let z = none k in omega arith))
