-- Each turn adds the busy and the cleared bits of one word; bits past the end of the set are masked out.
use Rattle.std.specs.Prelude.{◌++◌, ◌∷◌, ◌≡◌, ◌≤◌}
use Rattle.std.proofs.Common.{[], ap, arith, refl, ◌∙◌}
use Rattle.tag_pool.specs.Looks.{is_aside_in, is_busy_in}
use Rattle.tag_layout.specs.Layout.{Layout, words}
use Rattle.tag_pool.specs.Hands.{layout_of}
use Rattle.tag_pool.proofs.Around.{starts, goes_on, few_looks}
use Rattle.tag_pool.proofs.Sizes.{small_set}
use Rattle.tag_pool.proofs.Tallies.{counted, none_yet}
use Rattle.tag_pool.proofs.pool.Pool.show.Goals as goal

pub loop-word-init : goal.loop-word-init
loop-word-init g c = let l = layout_of c.args.self.now c.args.kind in record {
  own = (c.requires.hand, refl);
  found = ([], starts c.args.kind c.args.hand.now, none_yet l (is_busy_in l []), none_yet l (is_aside_in l []));
}

pub overflow_add-busy : goal.overflow_add-busy
overflow_add-busy g c =
    let l = layout_of c.args.self.now c.args.kind in let inv = c.loop-word.invariant.found in
    let there = c.loop-word-test.true in let end = c.words-word-end.ensures.value in
    let one = counted c.layout-layout.result l c.layout-layout.ensures inv.0 c.look_both-taken.result c.loop-word.word
    c.usable-usable.result inv.1.count
    (omega arith) (omega arith) c.usable-usable.ensures.value c.usable-usable.ensures.bits (omega arith) in
    let few = one.few_busy in let more = one.busy in let so = inv.2 in
    let small = small_set c.args.self.now c.args.kind in omega arith

pub overflow_add-cleared : goal.overflow_add-cleared
overflow_add-cleared g c =
    let l = layout_of c.args.self.now c.args.kind in let inv = c.loop-word.invariant.found in
    let there = c.loop-word-test.true in let end = c.words-word-end.ensures.value in
    let one = counted c.layout-layout.result l c.layout-layout.ensures inv.0 c.look_both-taken.result c.loop-word.word
    c.usable-usable.result inv.1.count
    (omega arith) (omega arith) c.usable-usable.ensures.value c.usable-usable.ensures.bits (omega arith) in
    let few = one.few_aside in let more = one.aside in let so = inv.3 in
    let small = small_set c.args.self.now c.args.kind in omega arith

pub loop-word-preserved : goal.loop-word-preserved
loop-word-preserved g c =
    let l = layout_of c.args.self.now c.args.kind in let inv = c.loop-word.invariant.found in
    let there = c.loop-word-test.true in let end = c.words-word-end.ensures.value in
    let one = counted c.layout-layout.result l c.layout-layout.ensures inv.0 c.look_both-taken.result c.loop-word.word
    c.usable-usable.result inv.1.count
    (omega arith) (omega arith) c.usable-usable.ensures.value c.usable-usable.ensures.bits (omega arith) in
    let busy = one.busy in let aside = one.aside in let so = inv.2 in let also = inv.3 in record {
      own = (c.look_both-taken.ensures.hand.0, c.look_both-taken.ensures.hand.1 ∙ c.loop-word.invariant.own.1);
      found = (
        inv.0 ++ c.look_both-taken.result ∷ [],
        goes_on c.args.kind c.loop-word.word inv.0 c.look_both-taken.result c.args.hand.now c.loop-word.hand
            c.look_both-taken.new.hand inv.1
            c.look_both-taken.ensures.looks c.look_both-taken.ensures.same,
        omega arith,
        omega arith,
      );
    }

pub returns-clause-bound : goal.returns-clause-bound
returns-clause-bound g c =
    let l = layout_of c.args.self.now c.args.kind in let inv = c.loop-word.invariant.found in
    let stop = c.loop-word-test.false in
    let made = few_looks c.args.kind inv.0 c.args.hand.now c.loop-word.hand inv.1.looks in let count = inv.1.count in
    let end : c.words-word-end.result ≡ words l =
    c.words-word-end.ensures.value ∙ ap (λ (s : Layout). words s) c.layout-layout.ensures in
    let low : c.loop-word.word ≤ words l = omega arith in omega arith
