-- A bit of 1 appends its tag, which comes after all earlier ones; a bit of 0 appends none, nor does a word of 0.
use Rattle.tag_script.proofs.Uses.{[], ap, arith, bit_and, bit_at, bit_at-zero, eq-eqb, filter, is_marked, List, nat_eq, one_shl, range, slice_index, sym, ℕ, ◌∙◌}
use Rattle.std.proofs.Common.{◌≡◌, ◌+◌, ◌*◌, ◌/◌, ◌%◌, ◌^◌, ◌<◌, ◌∷◌, ◌++◌}
use Rattle.tag_search.proofs.PlainFacts.{clear_of_mask, taken_of_mask}
use Rattle.tag_pool.specs.Bits.{bit_in}
use Rattle.tag_script.proofs.TextFacts.{filter_range-pass, filter_range-fail, filter_range-none}
use Rattle.tag_script.proofs.answer.BusyTags.of_bits.Goals as goal
use Rattle.tag_script.proofs.answer.BusyTags.of_bits.Goals.{then-word-place-ne0+in_ok-push, else-word-place-ne0}

bit_of : (bits : List ℕ) (index place : ℕ) → place < 64
    → bit_in 64 bits (64 * index + place) ≡ bit_at (slice_index bits index) place
bit_of bits index place low =
    let word : (64 * index + place) / 64 ≡ index = omega arith in
    let within : (64 * index + place) % 64 ≡ place = omega arith in
    ap (λ (i : ℕ). bit_at (slice_index bits i) ((64 * index + place) % 64)) word
    ∙ ap (bit_at (slice_index bits index)) within

pub loop-index-preserved-then-word-eq0 : goal.loop-index-preserved-then-word-eq0
loop-index-preserved-then-word-eq0 c =
    let bits : List ℕ = c.args.bits.now in let index : ℕ = c.loop-index.index in
    let none : (k : ℕ) → k < 64 → is_marked bits (64 * index + k) ≡ _ = λ k low.
    ap (λ (x : ℕ). nat_eq x 1)
    (bit_of bits index k low ∙ ap (λ (w : ℕ). bit_at w k) c.if-word-eq0.true ∙ bit_at-zero k) in
    let end : 64 * (index + 1) ≡ 64 * index + 64 = omega arith in
    c.loop-index.invariant ∙ sym (filter_range-none (is_marked bits) (64 * index) 64 none)
    ∙ ap (λ (n : ℕ). filter (is_marked bits) (range n)) (sym end)

pub loop-place-preserved : goal.loop-place-preserved
loop-place-preserved c =
    let bits : List ℕ = c.args.bits.now in let index : ℕ = c.loop-index.index in let place : ℕ = c.loop-place.place in
    let word : ℕ = slice_index bits index in let tag : ℕ = 64 * index + place in
    let low : place < 64 = c.loop-place-test.true in
    let beside : tag + 1 ≡ 64 * index + (place + 1) = omega arith in
    let next = ap (λ (n : ℕ). filter (is_marked bits) (range n)) beside in
    let shift : 1 * 2 ^ place % 2 ^ 64 ≡ 2 ^ place = one_shl place 64 low in
    elim c.if-word-place-ne0.branch [
      | then-word-place-ne0+in_ok-push w ↦ (
          let set = taken_of_mask word place (λ z. w.if-word-place-ne0.true (ap (bit_and word) shift ∙ z)) in
          ap (λ v. v.items) w.tags-is ∙ w.in_ok-push.ensures.items
          ∙ ap (λ (t : List ℕ). t ++ tag ∷ []) c.loop-place.invariant
          ∙ sym (filter_range-pass (is_marked bits) tag (eq-eqb _ 1 (bit_of bits index place low ∙ set))) ∙ next)
      | else-word-place-ne0 w ↦ (
          let clear = clear_of_mask word place (sym (ap (bit_and word) shift) ∙ w.if-word-place-ne0.false) in
          ap (λ v. v.items) w.tags-is ∙ c.loop-place.invariant
          ∙ sym (filter_range-fail (is_marked bits) tag
          (ap (λ (x : ℕ). nat_eq x 1) (bit_of bits index place low ∙ clear))) ∙ next)
    ]
