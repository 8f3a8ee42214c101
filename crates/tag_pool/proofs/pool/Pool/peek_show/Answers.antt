-- Each turn adds the busy and the cleared bits of one word, which are apart; bits past the end of the set are masked out.
use Rattle.std.specs.Prelude.{◌*◌, ◌++◌, ◌+◌, ◌∷◌}
use Rattle.std.proofs.Common.{[], ap, arith, length-append, min, refl, rules, ℕ, ◌∙◌}
use Rattle.tag_pool.specs.Looks.{is_aside_in, is_busy_in}
use Rattle.tag_pool.specs.Hands.{layout_of}
use Rattle.tag_layout.specs.Layout.{word_bits}
use Rattle.tag_pool.proofs.Sizes.{small_set}
use Rattle.tag_pool.proofs.Tallies.{counted, none_yet, no_more}
use Rattle.tag_pool.proofs.pool.Pool.peek_show.Goals as goal

pub loop-word-init : goal.loop-word-init
loop-word-init g c = let l = layout_of c.args.self.now c.args.kind in
    ([], refl, none_yet l (is_busy_in l []), none_yet l (is_aside_in l []))

pub overflow_add-busy : goal.overflow_add-busy
overflow_add-busy g c =
    let l = layout_of c.args.self.now c.args.kind in let inv = c.loop-word.invariant in
    let there = c.loop-word-test.true in let end = c.words-word-end.ensures.value in
    let one = counted c.layout-layout.result l c.layout-layout.ensures inv.0 c.peek_both-taken.result c.loop-word.word
    c.usable-usable.result inv.1
    (omega arith) (omega arith) c.usable-usable.ensures.value c.usable-usable.ensures.bits (omega arith) in
    let few = one.few_busy in let more = one.busy in let so = inv.2 in
    let small = small_set c.args.self.now c.args.kind in omega arith

pub overflow_add-cleared : goal.overflow_add-cleared
overflow_add-cleared g c =
    let l = layout_of c.args.self.now c.args.kind in let inv = c.loop-word.invariant in
    let there = c.loop-word-test.true in let end = c.words-word-end.ensures.value in
    let one = counted c.layout-layout.result l c.layout-layout.ensures inv.0 c.peek_both-taken.result c.loop-word.word
    c.usable-usable.result inv.1
    (omega arith) (omega arith) c.usable-usable.ensures.value c.usable-usable.ensures.bits (omega arith) in
    let few = one.few_aside in let more = one.aside in let so = inv.3 in
    let small = small_set c.args.self.now c.args.kind in omega arith

pub loop-word-preserved : goal.loop-word-preserved
loop-word-preserved g c =
    let l = layout_of c.args.self.now c.args.kind in let inv = c.loop-word.invariant in
    let there = c.loop-word-test.true in let end = c.words-word-end.ensures.value in
    let one = counted c.layout-layout.result l c.layout-layout.ensures inv.0 c.peek_both-taken.result c.loop-word.word
    c.usable-usable.result inv.1
    (omega arith) (omega arith) c.usable-usable.ensures.value c.usable-usable.ensures.bits (omega arith) in
    let busy = one.busy in let aside = one.aside in let so = inv.2 in let also = inv.3 in
    let pair = c.peek_both-taken.result in
    (inv.0 ++ pair ∷ [], length-append inv.0 (pair ∷ []) ∙ ap (λ (n : ℕ). n + 1) inv.1, omega arith, omega arith)

pub returns : goal.returns
returns g c =
    let l = layout_of c.args.self.now c.args.kind in let inv = c.loop-word.invariant in
    let few = no_more l inv.0 (min (c.loop-word.word * word_bits l) l.depth) in
    let busy = inv.2 in let aside = inv.3 in record {
      depth = cc;
      bits_per_word = search rules;
      map_nr = cc;
      within = omega arith;
    }
