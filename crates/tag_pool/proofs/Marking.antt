-- Setting bits one after another.
use Rattle.std.proofs.Common.{Bool, List, ap, arith, bit_and, bit_or, eq-eqb, false, get_or, inl, inr, length, nat_eq, refl, subst, sym, true, ℕ, ⊎_elim, ◌∙◌}
use Rattle.std.specs.Int.{bit_at}
use Rattle.std.proofs.lemmas.Nat.Bits.{bit_at-lt, bit_at-pow_other, bit_at-pow_same, bit_at_or}
use Rattle.tag_pool.specs.Bits.{Marks, bit_in}
use native.Mathlib.Decide.{dec_lt, ℕ_discrete}
use mathlib.Core.Logic.{dite}
use Rattle.std.proofs.lemmas.List.{get_or-set_other, get_or-set_same, length-set}
use Rattle.sums.specs.Below.{one_if}
use Rattle.std.proofs.lemmas.Nat.{one_shl}
use Rattle.std.specs.Prelude.{slice_set}
use Rattle.std.specs.Prelude.{slice_index, ◌%◌, ◌*◌, ◌+◌, ◌-◌, ◌/◌, ◌<◌, ◌^◌, ◌≡◌, ◌≢◌, ◌≤◌}
use Rattle.tag_search.proofs.PlainFacts.{clear_of_mask, taken_of_mask}

-- zero bits are marked in an unchanged list
pub marks-none : (w first : ℕ) (test : ℕ → Bool) (old : List ℕ) → Marks w first 0 test old old
marks-none w first test old = record {
  inside = λ k less. absurd (omega arith);
  outside = λ n out. refl;
}

-- a bit whose test fails is marked by leaving it
pub marks-skip : (w first : ℕ) (test : ℕ → Bool) (old : List ℕ) → test 0 ≡ false → Marks w first 1 test old old
marks-skip w first test old off = record {
  inside = λ k less. let z : k ≡ 0 = omega arith in
      let c : one_if (test k) ≡ 0 = ap (λ (j : ℕ). one_if (test j)) z ∙ ap (λ (b : Bool). one_if b) off in omega arith;
  outside = λ n out. refl;
}

-- two tests that agree mark the same bits
pub marks-like : (w first count : ℕ) (test other : ℕ → Bool) (old new : List ℕ)
    → ((k : ℕ) → k < count → one_if (test k) ≡ one_if (other k))
    → Marks w first count test old new → Marks w first count other old new
marks-like w first count test other old new like m = record {
  inside = λ k less. let a = m.inside k less in let b = like k less in omega arith;
  outside = m.outside;
}

-- marking some bits and then the bits after them marks all of these
pub marks-then : (w first a b : ℕ) (test more : ℕ → Bool) (old mid new : List ℕ) → Marks w first a test old mid
    → Marks w (first + a) b more mid new
    → ((k : ℕ) → k < b → one_if (more k) ≡ one_if (test (a + k))) → Marks w first (a + b) test old new
marks-then w first a b test more old mid new one two like = record {
  inside = λ k less. dite (dec_lt k a)
      (λ (h : k < a). let x = one.inside k h in let y = two.outside (first + k) (inl (omega arith)) in omega arith)
      (λ no. let j : ℕ = k - a in let is : a + j ≡ k = omega arith in
      let there : first + a + j ≡ first + k = omega arith in
      let x = two.inside j (omega arith) in let y = one.outside (first + k) (inr (omega arith)) in
      let t = like j (omega arith) in
      let same = ap (λ (i : ℕ). one_if (test i)) is in
      let now = ap (λ (n : ℕ). bit_in w new n) there in
      let before = ap (λ (n : ℕ). bit_in w mid n) there in omega arith);
  outside = λ n out. ⊎_elim
      (λ (h : n < first). two.outside n (inl (omega arith)) ∙ one.outside n (inl h))
      (λ (h : first + (a + b) ≤ n). two.outside n (inr (omega arith)) ∙ one.outside n (inr (omega arith))) out;
}

-- a bit is known by its word and its place there
one_number : (w : ℕ) → 0 < w → (m n : ℕ) → m / w ≡ n / w → m % w ≡ n % w → m ≡ n
one_number w some m n over rest = let words = ap (λ x. w * x) over in omega arith

module _ (w : ℕ) (some : 0 < w) (old : List ℕ) (bit : ℕ) (there : bit / w < length old) where
  abbrev now : List ℕ
  now = slice_set old (bit / w) (bit_or (get_or old (bit / w) 0) (2 ^ (bit % w)))

  here : bit_in w now bit ≡ 1
  here =
      let both = bit_at_or (get_or old (bit / w) 0) (2 ^ (bit % w)) (bit % w) in let one = bit_at-pow_same (bit % w) in
      let low = bit_at-lt (get_or old (bit / w) 0) (bit % w) in
      ap (λ (x : ℕ). bit_at x (bit % w)) (get_or-set_same old (bit / w)
      (bit_or (get_or old (bit / w) 0) (2 ^ (bit % w))) 0 there) ∙ omega arith

  else : (n : ℕ) → n ≢ bit → bit_in w now n ≡ bit_in w old n
  else n far = dite (ℕ_discrete (n / w) (bit / w))
      (λ (e : n / w ≡ bit / w).
      let other = bit_at-pow_other (bit % w) (n % w) (λ same. far (one_number w some n bit e same)) in
      let both = bit_at_or (get_or old (bit / w) 0) (2 ^ (bit % w)) (n % w) in
      ap (λ (i : ℕ). bit_at (get_or now i 0) (n % w)) e
      ∙ ap (λ (x : ℕ). bit_at x (n % w)) (get_or-set_same old (bit / w)
      (bit_or (get_or old (bit / w) 0) (2 ^ (bit % w))) 0 there)
      ∙ (let z : bit_at (bit_or (get_or old (bit / w) 0) (2 ^ (bit % w))) (n % w)
      ≡ bit_at (get_or old (bit / w) 0) (n % w) = omega arith in z)
      ∙ ap (λ (i : ℕ). bit_at (get_or old i 0) (n % w)) (sym e))
      (λ (ne : n / w ≢ bit / w). ap (λ (x : ℕ). bit_at x (n % w))
      (get_or-set_other old (bit / w) (n / w) (bit_or (get_or old (bit / w) 0) (2 ^ (bit % w))) 0 ne))

  -- setting one bit marks it
  pub marks-one : (test : ℕ → Bool) → test 0 ≡ true → Marks w bit 1 test old now
  marks-one test on = record {
    inside = λ k less. let z : bit + k ≡ bit = omega arith in let z0 : k ≡ 0 = omega arith in
        let c : one_if (test k) ≡ 1 = ap (λ (j : ℕ). one_if (test j)) z0 ∙ ap (λ (b : Bool). one_if b) on in
        let set = here in let same = ap (λ (n : ℕ). bit_in w now n) z in
        let before = ap (λ (n : ℕ). bit_in w old n) z in
        let low = bit_at-lt (get_or old (bit / w) 0) (bit % w) in omega arith;
    outside = λ n out. else n (λ e. ⊎_elim (λ (h : n < bit). absurd (omega arith))
        (λ (h : bit + 1 ≤ n). absurd (omega arith)) out);
  }

-- of a loop over the places of a mask, which marks those whose bit is 1: the places so far are marked
module _ (w : ℕ) (some : 0 < w) (first place mask : ℕ) (old mid new : List ℕ) (low : place < 64)
    (room : length mid ≡ length old) (marks : Marks w first place (λ k. nat_eq (bit_at mask k) 1) old mid) where
  abbrev test : ℕ → Bool
  test k = nat_eq (bit_at mask k) 1

  like : (b : Bool) → test place ≡ b → (k : ℕ) → k < 1 → one_if b ≡ one_if (test (place + k))
  like b is k less = let z : place ≡ place + k = omega arith in ap one_if (sym is ∙ ap test z)

  -- a place whose bit is 1 is marked too
  pub turn-one : bit_and mask (1 * 2 ^ place % 2 ^ 64) ≢ 0 → (first + place) / w < length mid
      → new ≡ slice_set mid ((first + place) / w)
      (bit_or (slice_index mid ((first + place) / w)) (1 * 2 ^ ((first + place) % w) % 2 ^ w))
      → (length new ≡ length old) × Marks w first (place + 1) test old new
  turn-one on there is =
      let bit : ℕ = first + place in
      let at = one_shl place 64 low in let put = one_shl (bit % w) w (omega arith) in
      let one = taken_of_mask mask place (λ z. on (ap (bit_and mask) at ∙ z)) in
      let same : new ≡ slice_set mid (bit / w) (bit_or (slice_index mid (bit / w)) (2 ^ (bit % w))) = is
      ∙ ap (λ (m : ℕ). slice_set mid (bit / w) (bit_or (slice_index mid (bit / w)) m)) put in (
        ap (λ (l : List ℕ). length l) same
            ∙ length-set mid (bit / w) (bit_or (slice_index mid (bit / w)) (2 ^ (bit % w))) ∙ room,
        marks-then w first place 1 test (λ k. true) old mid new marks
            (subst (Marks w bit 1 (λ k. true) mid) (sym same) (marks-one w some mid bit there (λ k. true) refl))
            (like true (eq-eqb (bit_at mask place) 1 one)),
      )

  -- and one whose bit is 0 is left
  pub turn-zero : bit_and mask (1 * 2 ^ place % 2 ^ 64) ≡ 0 → new ≡ mid
      → (length new ≡ length old) × Marks w first (place + 1) test old new
  turn-zero off is =
      let none = clear_of_mask mask place (sym (ap (bit_and mask) (one_shl place 64 low)) ∙ off) in (
        ap (λ (l : List ℕ). length l) is ∙ room,
        marks-then w first place 1 test (λ k. false) old mid new marks
            (subst (Marks w (first + place) 1 (λ k. false) mid) (sym is)
            (marks-skip w (first + place) (λ k. false) mid refl))
            (like false (ap (λ (x : ℕ). nat_eq x 1) none)),
      )
