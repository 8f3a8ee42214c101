-- A word without a held tag can be skipped, since it adds nothing; in other words each held tag is appended.
use Rattle.tag_script.proofs.Uses.{[], ap, arith, false, filter, is_held_tag, Layout, List, min, plain_world_of, PlainWorld, range, refl, subst, sym, tag_at, word-start, word_bits, word_bits-le, word_depth, words, ℕ, ◌∙◌}
use Rattle.std.proofs.Common.{◌≡◌, ◌+◌, ◌*◌, ◌<◌, ◌≤◌, ◌∷◌, ◌++◌}
use Rattle.tag_script.proofs.TextFacts.{filter_range-pass, filter_range-fail, filter_range-none}
use Rattle.tag_script.proofs.plain_caller.PlainCaller.busy.Goals as goal
use Rattle.tag_script.proofs.plain_caller.PlainCaller.busy.Goals.{then-holds+in_ok-push, else-holds}

pub loop-word-preserved-then-not-holds_any : goal.loop-word-preserved-then-not-holds_any
loop-word-preserved-then-not-holds_any c =
    let world : PlainWorld = plain_world_of c.args.self.now in let l : Layout = world.layout in let i : ℕ = c.loop-word.word in
    let there : i < words l = subst (λ (m : Layout). i < words m) c.layout-layout.ensures
    (omega (arith, c.words-word-end.ensures.value)) in
    let start = word-start l i there in
    let more : (i + 1) * word_bits l ≡ i * word_bits l + word_bits l = omega arith in
    let here : min (i * word_bits l) l.depth ≡ i * word_bits l = omega arith in
    let next : min ((i + 1) * word_bits l) l.depth ≡ i * word_bits l + word_depth l i = omega arith in
    let narrow : word_bits l ≤ 64 = subst (λ (m : Layout). word_bits m ≤ 64) c.layout-layout.ensures
    (word_bits-le c.layout-layout.result (omega arith)) in
    let none : (place : ℕ) → place < min 64 (word_bits l) → is_held_tag world (tag_at l i place) ≡ false =
    subst (λ (w : PlainWorld). (place : ℕ) → place < min 64 (word_bits w.layout)
    → is_held_tag w (tag_at w.layout i place) ≡ false)
    c.loop-word.invariant.same (c.if-not-holds_any.ensures.none refl) in
    let listed : ℕ → List ℕ = λ n. filter (is_held_tag world) (range n) in
    record {
      same = c.holds_any.ensures.same ∙ c.loop-word.invariant.same;
      listed = c.loop-word.invariant.listed ∙ ap listed here
          ∙ sym (filter_range-none (is_held_tag world) (i * word_bits l) (word_depth l i) (λ place low. none place (omega arith))) ∙ ap listed (sym next);
    }

pub loop-place-preserved : goal.loop-place-preserved
loop-place-preserved c =
    let world : PlainWorld = plain_world_of c.args.self.now in let l : Layout = world.layout in
    let test = is_held_tag world in let n : ℕ = c.loop-word.word * word_bits l + c.loop-place.place in
    let tag_is : c.tag_at-tag.result ≡ n =
    c.tag_at-tag.ensures.value
    ∙ ap (λ (m : Layout). tag_at m c.loop-word.word c.loop-place.place) c.layout-layout.ensures in
    let holds_is : c.holds.result ≡ test n =
    c.holds.ensures ∙ ap (λ (w : PlainWorld). is_held_tag w c.tag_at-tag.result) c.loop-place.invariant.same ∙ ap test tag_is in
    let beside : n + 1 ≡ c.loop-word.word * word_bits l + (c.loop-place.place + 1) = omega arith in
    let next = ap (λ (k : ℕ). filter test (range k)) beside in
    record {
      same = c.loop-place.invariant.same;
      listed = elim c.if-holds.branch [
        | then-holds+in_ok-push w ↦ ap (λ v. v.items) w.tags-is ∙ w.in_ok-push.ensures.items
            ∙ ap (λ (t : List ℕ). t ++ c.tag_at-tag.result ∷ []) c.loop-place.invariant.listed
            ∙ ap (λ (k : ℕ). filter test (range n) ++ k ∷ []) tag_is
            ∙ sym (filter_range-pass test n (sym holds_is ∙ w.if-holds.true)) ∙ next
        | else-holds w ↦ ap (λ v. v.items) w.tags-is ∙ c.loop-place.invariant.listed
            ∙ sym (filter_range-fail test n (sym holds_is ∙ w.if-holds.false)) ∙ next
      ];
    }
