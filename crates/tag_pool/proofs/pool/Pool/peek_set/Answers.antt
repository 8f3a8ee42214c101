-- Each turn loads one word, marks the bits of its busy tags and adds their number.
use Rattle.std.specs.Prelude.{◌*◌, ◌++◌, ◌+◌, ◌∷◌, ◌≡◌}
use Rattle.std.proofs.Common.{[], ap, arith, bit_and, length-append, min, nat_eq, refl, subst, ℕ, ◌∙◌}
use Rattle.std.specs.Int.{bit_at, bit_not, w64}
use Rattle.sums.specs.Below.{count_below}
use Rattle.sums.proofs.Laws.{count_below-le}
use Rattle.tag_pool.specs.Looks.{is_busy_in}
use Rattle.tag_layout.specs.Layout.{Layout, word_bits}
use Rattle.tag_pool.specs.Bits.{Marks}
use Rattle.tag_pool.specs.Peeks.{PeeksSet}
use Rattle.tag_layout.proofs.PlaceFacts.{word_depth-pos}
use Rattle.tag_pool.proofs.Marking.{marks-none}
use Rattle.tag_pool.proofs.Sizes.{small_set}
use Rattle.tag_pool.proofs.Tallies.{counted, none_yet, marks_word, all_words}
use Rattle.tag_pool.proofs.pool.Pool.peek_set.Goals as goal

pub loop-word-init : goal.loop-word-init
loop-word-init g c = let l = c.layout-layout.result in
    let none : 0 ≡ min (0 * word_bits l) l.depth = omega arith in record {
      room = refl;
      found = (
        [],
        refl,
        none_yet l (is_busy_in l []),
        subst (λ (n : ℕ). Marks 64 c.args.first n (is_busy_in l []) c.args.into.now c.args.into.now) none
            (marks-none 64 c.args.first (is_busy_in l []) c.args.into.now),
      );
    }

pub tag_at-requires-clause-place : goal.tag_at-requires-clause-place
tag_at-requires-clause-place g c = let there = c.loop-word-test.true in let end = c.words-word-end.ensures.value in
    word_depth-pos c.layout-layout.result c.loop-word.word (omega arith)

pub overflow_add-count : goal.overflow_add-count
overflow_add-count g c =
    let l = c.layout-layout.result in let inv = c.loop-word.invariant.found in let there = c.loop-word-test.true in
    let end = c.words-word-end.ensures.value in
    let one = counted l l refl inv.0 c.peek_both-taken.result c.loop-word.word c.usable.result inv.1
    (omega arith) (omega arith) c.usable.ensures.value c.usable.ensures.bits (omega arith) in
    let few = one.few_busy in let more = one.busy in let so = inv.2 in
    let small = small_set c.args.self.now c.args.kind in
    let same = ap (λ (s : Layout). s.depth) c.layout-layout.ensures in omega arith

pub loop-word-preserved : goal.loop-word-preserved
loop-word-preserved g c =
    let l = c.layout-layout.result in let inv = c.loop-word.invariant.found in let there = c.loop-word-test.true in
    let end = c.words-word-end.ensures.value in
    let word : ℕ = c.loop-word.word in let pair = c.peek_both-taken.result in
    let one = counted l l refl inv.0 pair word c.usable.result inv.1
    (omega arith) (omega arith) c.usable.ensures.value c.usable.ensures.bits (omega arith) in
    let busy = one.busy in let so = inv.2 in
    record {
      room = c.mark.ensures.room ∙ c.loop-word.invariant.room;
      found = (
        inv.0 ++ pair ∷ [],
        length-append inv.0 (pair ∷ []) ∙ ap (λ (n : ℕ). n + 1) inv.1,
        omega arith,
        marks_word 64 l inv.0 pair word inv.1 c.usable.result (omega arith) (omega arith) c.usable.ensures.value
            c.usable.ensures.bits (omega arith)
            c.args.first c.args.into.now c.loop-word.into c.mark.new.into inv.3
            (subst (λ (p : ℕ × ℕ). Marks 64 (c.args.first + p.0) p.1
            (λ k. nat_eq (bit_at (bit_and (bit_and pair.0 c.usable.result) (bit_not w64 pair.1)) k) 1)
            c.loop-word.into c.mark.new.into) (λ j. (c.tag_at.ensures.value j, c.word_depth.ensures.value j))
            c.mark.ensures.marks),
      );
    }

pub returns-clause-peeks : goal.returns-clause-peeks
returns-clause-peeks g c =
    let l = c.layout-layout.result in let inv = c.loop-word.invariant.found in let stop = c.loop-word-test.false in
    let end = c.words-word-end.ensures.value in
    let word : ℕ = c.loop-word.word in let all = all_words l word (omega arith) in
    subst (λ (s : Layout). PeeksSet s c.args.first c.args.into.now c.loop-word.into c.loop-word.count)
    c.layout-layout.ensures
    (record {
      found = inv.0;
      marks = subst (λ (n : ℕ). Marks 64 c.args.first n (is_busy_in l inv.0) c.args.into.now c.loop-word.into) all
          inv.3;
      count_is = inv.2 ∙ ap (count_below (is_busy_in l inv.0)) all;
    })

pub returns-clause-few : goal.returns-clause-few
returns-clause-few g c =
    let l = c.layout-layout.result in let inv = c.loop-word.invariant.found in let so = inv.2 in
    let le = count_below-le (is_busy_in l inv.0) (min (c.loop-word.word * word_bits l) l.depth) in
    let small = small_set c.args.self.now c.args.kind in
    let same = ap (λ (s : Layout). s.depth) c.layout-layout.ensures in omega arith
