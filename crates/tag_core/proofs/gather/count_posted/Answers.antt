-- A tag is posted exactly if the word of its state is not 0.
use Rattle.std.specs.Prelude.{◌+◌, ◌<◌, ◌∷◌, ◌≡◌, ◌≢◌}
use Rattle.tag_core.proofs.Uses.{[], ap, arith, get_elem?, get_or, Layout, List, posted_by_word, refl, rules, slots_items, slots_len, some, some-injective, some-ne-none, subst, suc, sum_below, sym, zero, ℕ, ◌∙◌}
use Rattle.tag_core.specs.Spacing.{state_at}
use Rattle.tag_core.proofs.Stand.{state_in}
use Rattle.tag_core.proofs.gather.count_posted.Goals.{then-word-ne0, else-word-ne0}
use Rattle.tag_core.proofs.gather.count_posted.Goals as goal

pub word-requires : goal.word-requires
word-requires g c = let l : c.loop-tag.tag < c.args.layout.depth = search rules in (
  subst (λ (z : ℕ). z < slots_len c.args.ended.now.words) (sym c.state_spot.ensures)
      (subst (λ (z : ℕ). state_at c.args.layout c.loop-tag.tag < z) (sym c.requires.1)
      (state_in c.args.layout c.loop-tag.tag l)),
  c.requires.0,
)

-- what an entry is, as a clause reads it
read : (l : List ℕ) (i x : ℕ) → get_elem? l i ≡ some x → get_or l i 0 ≡ x
read [] i x e = absurd (some-ne-none x (sym e))
read (y ∷ l) zero x e = some-injective y x e
read (y ∷ l) (suc i) x e = read l i x e

-- states that are not 0, of the first tags of a layout
abbrev posts : Layout → List ℕ → ℕ → ℕ
posts l ws n = sum_below (λ t. posted_by_word (get_or ws (state_at l t) 0)) n

one : (word : ℕ) → word ≢ 0 → posted_by_word word ≡ 1
one zero some_there = absurd (some_there refl)
one (suc note) some_there = refl

pub loop-tag-preserved : goal.loop-tag-preserved
loop-tag-preserved g c =
    let l = c.args.layout in let ws = slots_items c.args.ended.now.words in let t : ℕ = c.loop-tag.tag in
    let inv = c.loop-tag.invariant in
    let next : suc t ≡ t + 1 = omega arith in
    let is : get_or ws (state_at l t) 0 ≡ c.word.result = ap (λ (z : ℕ). get_or ws z 0) (sym c.state_spot.ensures)
    ∙ read ws c.state_spot.result c.word.result c.word.ensures in
    let more : posts l ws (t + 1) ≡ posts l ws t + posted_by_word (get_or ws (state_at l t) 0) =
    ap (posts l ws) (sym next) in
    elim c.if-word-ne0.branch [
      | then-word-ne0 w ↦ (
          let counted = one (get_or ws (state_at l t) 0) (λ z. w.if-word-ne0.true (sym is ∙ z)) in
          let p = w.posted-is in let b = inv.1 in (omega arith, omega arith))
      | else-word-ne0 w ↦ (
          let none_here = ap posted_by_word (is ∙ w.if-word-ne0.false) in
          let p = w.posted-is in let b = inv.1 in (omega arith, omega arith))
    ]
