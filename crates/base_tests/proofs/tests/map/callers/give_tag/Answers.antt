-- The mask of a held tag has only its bit, which is within its word and held.
use Rattle.base_tests.proofs.Uses.{ap, arith, bit_at, bit_at-pow_other, Bool, cond, dite, eq-eqb, Holds, IsTrue, IsWithin, Layout, ne_eqb, one_shl, place_of, refl, subst, sym, word_of, word_of-below, words, ℕ, ℕ_discrete, ◌∙◌}
use Rattle.std.proofs.Common.{◌≡◌, ◌≢◌, ◌*◌, ◌%◌, ◌^◌, ◌<◌}
use Rattle.tag_model.specs.Event.{is_in_mask}
use Rattle.tag_core.specs.declared.shape.Shape.{Shape}
use Rattle.tag_core.proofs.Picks.{among, among_one}
use Rattle.tag_core.proofs.Stand.{same_tag, tag_mask_within}
use Rattle.base_tests.proofs.tests.map.callers.give_tag.Goals as goal

-- one tag alone is in the mask of its bit
only_tag_in : (l : Layout) (tag other : ℕ) → IsTrue (is_in_mask l (word_of l tag) (2 ^ place_of l tag) other)
    → tag ≡ other
only_tag_in l tag other inside =
    let mask : ℕ = 2 ^ place_of l tag in let one = among_one l (word_of l tag) mask other inside in
    dite (ℕ_discrete (word_of l other) (word_of l tag))
    (λ (same_word : word_of l other ≡ word_of l tag). dite (ℕ_discrete (place_of l other) (place_of l tag))
    (λ (same_place : place_of l other ≡ place_of l tag). same_tag l tag other (sym same_word) (sym same_place))
    (λ (ne : place_of l other ≢ place_of l tag).
    let here : among l.shift (word_of l tag) mask other ≡ bit_at mask (place_of l other) =
    ap (λ (b : Bool). cond b (bit_at mask (place_of l other)) 0) (eq-eqb (word_of l other) (word_of l tag) same_word) in
    let zero_there = bit_at-pow_other (place_of l tag) (place_of l other) ne in absurd (omega arith)))
    (λ (ne : word_of l other ≢ word_of l tag).
    let zero_there : among l.shift (word_of l tag) mask other ≡ 0 =
    ap (λ (b : Bool). cond b (bit_at mask (place_of l other)) 0) (ne_eqb (word_of l other) (word_of l tag) ne) in
    absurd (omega arith))

-- the mask of the tag's bit
mask_is : (l other : Layout) (word place tag : ℕ) → other ≡ l → word ≡ word_of other tag
    → place ≡ place_of other tag → place < 64
    → (word ≡ word_of l tag) × (1 * 2 ^ place % 2 ^ 64 ≡ 2 ^ place_of l tag)
mask_is l other word place tag same word_is place_is low = (
  word_is ∙ ap (λ (z : Layout). word_of z tag) same,
  one_shl place 64 low ∙ ap (λ (z : ℕ). 2 ^ z) (place_is ∙ ap (λ (z : Layout). place_of z tag) same),
)

pub give-requires-clause-within : goal.give-requires-clause-within
give-requires-clause-within c = let l : Layout = c.args.map.now.shape.layout in let tag : ℕ = c.args.tag in
    let is = mask_is l c.layout-layout.result c.word_of.result c.place_of.result tag c.layout-layout.ensures
    c.word_of.ensures.value c.place_of.ensures.value c.place_of.ensures.bound in
    let held = c.if-not-has.ensures refl in
    let low : tag < l.depth = subst (λ (z : Shape). tag < z.layout.depth) c.requires.1 held.0 in (
      subst (λ (z : ℕ). z < words l) (sym is.0) (word_of-below l tag low),
      subst (λ (z : ℕ × ℕ). IsWithin l z.0 z.1) (λ j. (sym is.0 j, sym is.1 j)) (tag_mask_within l tag low),
    )

pub give-requires-clause-held : goal.give-requires-clause-held
give-requires-clause-held c other low inside = let l : Layout = c.args.map.now.shape.layout in
    let tag : ℕ = c.args.tag in
    let is = mask_is l c.layout-layout.result c.word_of.result c.place_of.result tag c.layout-layout.ensures
    c.word_of.ensures.value c.place_of.ensures.value c.place_of.ensures.bound in
    let held = c.if-not-has.ensures refl in
    subst (Holds c.args.caller.now)
    (only_tag_in l tag other (subst (λ (z : ℕ × ℕ). IsTrue (is_in_mask l z.0 z.1 other))
    (λ j. (is.0 j, is.1 j)) inside)) held
