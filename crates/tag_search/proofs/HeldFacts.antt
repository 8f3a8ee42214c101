-- After a get its caller holds the tags that it held before and those answered.
use Rattle.std.specs.Prelude.{◌*◌, ◌+◌, ◌-◌, ◌<◌, ◌==◌, ◌^◌, ◌≡◌, ◌≤◌}
use Rattle.tag_search.proofs.Uses.{acquires, alone_named, ap, arith, bit_at, bit_at-shr, bit_at-zero, bit_at_cat_high, bit_at_cat_low, Caller, dec_lt, dite, eq-eqb, eqb-true, Holds, HoldsMore, IfSome, inl, is_one, IsAnswer, IsInMask, IsInRun, keeps_all, Layout, more_like, mul-div_cancel, None}
use Rattle.tag_search.proofs.Uses.{Option, place_of, place_of-tag_at, pow_pos, record_of, slot_of, Some, subst, sym, tag_at, tag_at-back, tag_at-below, word_bits, word_depth, word_of, word_of-below, word_of-tag_at, ℕ, ◌∙◌}
use Rattle.tag_search.proofs.OneTag.{both_true, and_true}
use Rattle.tag_search.proofs.RunFacts.{IsBelow, WonRun}
use Rattle.tag_search.proofs.SharedFacts.{Won}

-- a bit of a shifted mask is one of the mask
shifted_bit : (bits p q : ℕ) → bit_at (bits * 2 ^ p) q ≡ 1 → (p ≤ q) × (bit_at bits (q - p) ≡ 1)
shifted_bit bits p q one =
    let e : bits * 2 ^ p ≡ bits * 2 ^ p + 0 = omega arith in
    let there : bit_at (bits * 2 ^ p + 0) q ≡ 1 = sym (ap (λ (x : ℕ). bit_at x q) e) ∙ one in dite (dec_lt q p)
    (λ low. absurd (let none = bit_at_cat_low bits p 0 q low in let zero = bit_at-zero q in omega arith))
    (λ high. let above : p ≤ q = omega arith in (above, sym (bit_at_cat_high bits p 0 q (pow_pos p) above) ∙ there))

-- the mask of a batch names its tags
module _ (l : Layout) (won : ℕ × ℕ) (low : IsBelow (word_depth l (word_of l won.0)) (place_of l won.0, won.1)) where
  abbrev run : ℕ
  run = won.1 * 2 ^ place_of l won.0

  named_in_run : (tag : ℕ) → IsInMask l (word_of l won.0) run tag → IsInRun (Some won) tag
  named_in_run tag named =
      let i : ℕ = word_of l won.0 in let p : ℕ = place_of l won.0 in let q : ℕ = place_of l tag in
      let both = both_true (word_of l tag == i) (bit_at run q == 1) named in
      let word : word_of l tag ≡ i = eqb-true (word_of l tag) i both.0 in
      let at = shifted_bit won.1 p q (eqb-true (bit_at run q) 1 both.1) in let high : p ≤ q = at.0 in
      let first = tag_at-back l won.0 in
      let here : tag_at l i q ≡ tag = ap (λ (j : ℕ). tag_at l j q) (sym word) ∙ tag_at-back l tag in
      (q - p, omega arith, at.1)

  -- a tag of the batch, by its word and place
  run_place : (tag : ℕ) → IsInRun (Some won) tag → (k : ℕ) × (place_of l won.0 + k < word_depth l (word_of l won.0))
      × (tag ≡ tag_at l (word_of l won.0) (place_of l won.0 + k)) × (bit_at won.1 k ≡ 1)
  run_place tag within = (
    within.0,
    low.1 within.0 within.2,
    (let first = tag_at-back l won.0 in let is = within.1 in omega arith),
    within.2,
  )

  run_below : (tag : ℕ) → IsInRun (Some won) tag → tag < l.depth
  run_below tag within = let at = run_place tag within in
      let below = tag_at-below l (word_of l won.0) (place_of l won.0 + at.0) at.1 in
      let is = at.2 in omega arith

  run_named : (tag : ℕ) → IsInRun (Some won) tag → IsInMask l (word_of l won.0) run tag
  run_named tag within = let at = run_place tag within in let i : ℕ = word_of l won.0 in
      let p : ℕ = place_of l won.0 in let k : ℕ = at.0 in
      let deep : p + k < word_depth l i = at.1 in let small : p + k < word_bits l = omega arith in
      let word : word_of l tag ≡ i = ap (word_of l) at.2 ∙ word_of-tag_at l i (p + k) small in
      let place : place_of l tag ≡ p + k = ap (place_of l) at.2 ∙ place_of-tag_at l i (p + k) small in
      let bit : bit_at run (place_of l tag) ≡ 1 = ap (bit_at run) place ∙ sym (bit_at-shr run p k)
      ∙ ap (λ (x : ℕ). bit_at x k) (mul-div_cancel won.1 (pow_pos p)) ∙ at.3 in
      and_true (word_of l tag == i) (bit_at run (place_of l tag) == 1) (eq-eqb (word_of l tag) i word)
      (eq-eqb (bit_at run (place_of l tag)) 1 bit)

module _ {R : Type 0} (old new : Caller R) (narrow : old.shape.value.layout.shift ≤ 6) where
  abbrev sizes : Layout
  sizes = old.shape.value.layout

  -- the tags that a get acquires
  pub acquires_answer : (answer : Option ℕ) → Won sizes answer (record_of old) (record_of new)
      → IfSome answer (λ tag. ¬ (Holds old tag))
      → ((tag : ℕ) → Holds old tag → Holds new tag → slot_of new tag ≡ slot_of old tag)
      → HoldsMore (IsAnswer answer) old new
  acquires_answer None gained fresh slots = let all = keeps_all old new narrow gained.shape slots gained.held in
      record {
        fresh = λ tag is. absurd is;
        joined = λ tag is. absurd is;
        kept = all.kept;
        none_else = λ tag holds. inl (all.none_else tag holds);
      }
  acquires_answer (Some answer) gained fresh slots =
      let i : ℕ = word_of sizes answer in let bit : ℕ = 2 ^ place_of sizes answer in
      let to = alone_named old.shape.value narrow answer in
      more_like (is_one old.shape.value narrow answer)
      (acquires old new narrow gained.shape slots i bit (word_of-below sizes answer gained.fact)
      (λ tag named. subst (λ (t : ℕ). ¬ (Holds old t)) (sym (to tag named)) fresh)
      (λ tag named. subst (λ (t : ℕ). t < sizes.depth) (sym (to tag named)) gained.fact) gained.held)

  -- the tags that a batch get acquires
  pub acquires_run : (answer : Option (ℕ × ℕ)) → WonRun sizes answer (record_of old) (record_of new)
      → ((tag : ℕ) → IsInRun answer tag → ¬ (Holds old tag))
      → ((tag : ℕ) → Holds old tag → Holds new tag → slot_of new tag ≡ slot_of old tag)
      → HoldsMore (IsInRun answer) old new
  acquires_run None gained fresh slots = let all = keeps_all old new narrow gained.shape slots gained.held in record {
    fresh = fresh;
    joined = λ tag is. absurd is;
    kept = all.kept;
    none_else = λ tag holds. inl (all.none_else tag holds);
  }
  acquires_run (Some won) gained fresh slots =
      let i : ℕ = word_of sizes won.0 in let mask : ℕ = won.1 * 2 ^ place_of sizes won.0 in
      let to = named_in_run sizes won gained.fact in
      let first : won.0 < sizes.depth = let low = tag_at-below sizes i (place_of sizes won.0) gained.fact.0 in
      let back = tag_at-back sizes won.0 in omega arith in
      more_like (λ tag. (to tag, run_named sizes won gained.fact tag))
      (acquires old new narrow gained.shape slots i mask (word_of-below sizes won.0 first)
      (λ tag named. fresh tag (to tag named))
      (λ tag named. run_below sizes won gained.fact tag (to tag named)) gained.held)
