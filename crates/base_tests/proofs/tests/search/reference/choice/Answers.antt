-- The words passed have no available place, so the first word with a free or aside place decides the choice.
use Rattle.base_tests.proofs.Uses.{All, ap, false, get_or, IsAside, IsChoice, IsFirst, IsFree, IsFull, IsSet, List, Pool, pool_of_marks, Some, subst, sym, take, visit_of, visits, ℕ, ◌∙◌}
use Rattle.std.proofs.Common.{◌≡◌, ◌∷◌}
use Rattle.base_tests.proofs.ReferenceOrders.{reach_of, words_from, word_there}
use Rattle.base_tests.proofs.Reference.{reference_nothing, reference_free, reference_aside, first_aside, busy_all, insert_first, swept_more, all_more}
use Rattle.base_tests.proofs.tests.search.reference.choice.Goals as goal

pub rank_of-requires : goal.rank_of-requires
rank_of-requires c =
    word_there c.args.layout c.args.way.first c.words.result c.deref-word-items.result.now _ c.loop-word.word-index
    c.deref-word-items.ensures.value c.in_ok-order.ensures c.words.ensures.value c.loop-word-test.true

pub first_marked-requires-clause-word : goal.first_marked-requires-clause-word
first_marked-requires-clause-word c =
    word_there c.args.layout c.args.way.first c.words.result c.deref-word-items.result.now _ c.loop-word.word-index
    c.deref-word-items.ensures.value c.in_ok-order.ensures c.words.ensures.value c.loop-word-test.true

pub first_marked-requires-in-loop-word-clause-word : goal.first_marked-requires-in-loop-word-clause-word
first_marked-requires-in-loop-word-clause-word c =
    word_there c.args.layout c.args.way.first c.words.result c.deref-word-items.result.now _ c.loop-word.word-index
    c.deref-word-items.ensures.value c.in_ok-order.ensures c.words.ensures.value c.loop-word-test.true

pub loop-word-preserved : goal.loop-word-preserved
loop-word-preserved c =
    let l = c.args.layout in let p : Pool = pool_of_marks l c.args.free.now c.args.aside.now in
    let way = c.args.way in let first = way.first in let reach = reach_of l way.start way.shallow way.wrap in
    let items = c.deref-word-items.result.now in let n = c.loop-word.word-index in
    let word : ℕ = get_or items n 0 in let rank : List ℕ = (visit_of first reach word).rank in
    let set : All (IsSet p word) rank = subst (All (IsSet p word)) (c.deref.ensures.value
    ∙ c.in_ok-rank.ensures) c.in_default.ensures in
    let out : All (λ k. p.aside word k ≡ false) rank =
    subst (All (λ k. p.aside word k ≡ false)) (c.deref-in-loop-word.ensures.value
    ∙ c.in_ok-rank.ensures) c.in_default-first_marked.ensures in
    record {
      swept = swept_more items c.loop-word.swept.items c.push.new.self.items n c.loop-word-test.true
          c.loop-word.invariant.swept c.in_ok-push.ensures.items;
      passed = all_more (λ i. IsFull p (visit_of first reach i)) items n c.loop-word-test.true
          c.loop-word.invariant.passed (busy_all p word rank set out);
    }

pub returns-in-Some-clause-choice : goal.returns-in-Some-clause-choice
returns-in-Some-clause-choice c =
    let l = c.args.layout in let p : Pool = pool_of_marks l c.args.free.now c.args.aside.now in
    let way = c.args.way in let first = way.first in let reach = reach_of l way.start way.shallow way.wrap in
    let items = c.deref-word-items.result.now in let n = c.loop-word.word-index in
    let word : ℕ = get_or items n 0 in let rank : List ℕ = (visit_of first reach word).rank in
    let order = words_from l first c.words.result items _ c.deref-word-items.ensures.value c.in_ok-order.ensures
    c.words.ensures.value in
    let place = c.in-Some.place in
    let is : IsFirst (IsFree p word) (IsSet p word) rank place =
    subst (λ (xs : List ℕ). IsFirst (IsFree p word) (IsSet p word) xs place) (c.deref.ensures.value
    ∙ c.in_ok-rank.ensures) c.in-Some.ensures in
    let new : Pool = pool_of_marks l c.in_ok-marks.marks.free.items c.in_ok-marks.marks.aside.items in
    subst (λ (t : ℕ). IsChoice l p (visits l first reach) (Some t) new) (sym c.tag_at.ensures.value)
    (reference_free l p first reach items c.deref-in-Some.result.now order n word place c.loop-word-test.true
    (λ _. word) c.loop-word.invariant.passed new
    (c.deref-in-Some.ensures.value ∙ c.loop-word.invariant.swept) is c.in_ok-marks.ensures.pool)

pub returns-in-Some-first_marked-clause-choice : goal.returns-in-Some-first_marked-clause-choice
returns-in-Some-first_marked-clause-choice c =
    let l = c.args.layout in let p : Pool = pool_of_marks l c.args.free.now c.args.aside.now in
    let way = c.args.way in let first = way.first in let reach = reach_of l way.start way.shallow way.wrap in
    let items = c.deref-word-items.result.now in let n = c.loop-word.word-index in
    let word : ℕ = get_or items n 0 in let rank : List ℕ = (visit_of first reach word).rank in
    let order = words_from l first c.words.result items _ c.deref-word-items.ensures.value c.in_ok-order.ensures
    c.words.ensures.value in
    let place = c.in-Some-first_marked.place in
    let set : All (IsSet p word) rank = subst (All (IsSet p word)) (c.deref.ensures.value
    ∙ c.in_ok-rank.ensures) c.in_default.ensures in
    let is : IsFirst (IsAside p word) (λ k. p.aside word k ≡ false) rank place =
    subst (λ (xs : List ℕ). IsFirst (IsAside p word) (λ k. p.aside word k ≡ false) xs place)
    (c.deref-in-loop-word.ensures.value ∙ c.in_ok-rank.ensures) c.in-Some-first_marked.ensures in
    let new : Pool = pool_of_marks l c.in_ok-marks-2.marks.free.items c.in_ok-marks-2.marks.aside.items in
    let swept : c.deref-in-Some-first_marked.result.now ≡ word ∷ take n items =
    c.deref-in-Some-first_marked.ensures.value ∙ c.in_ok-insert.ensures.items
    ∙ insert_first c.loop-word.swept.items word ∙ ap (λ (xs : List ℕ). word ∷ xs) c.loop-word.invariant.swept in
    subst (λ (t : ℕ). IsChoice l p (visits l first reach) (Some t) new)
    (sym c.tag_at-in-Some-first_marked.ensures.value)
    (reference_aside l p first reach items c.deref-in-Some-first_marked.result.now order n word place c.loop-word-test.true
    (λ _. word) c.loop-word.invariant.passed new
    swept set (first_aside p word rank place set is) c.in_ok-marks-2.ensures.pool)

pub returns-clause-choice : goal.returns-clause-choice
returns-clause-choice c =
    let l = c.args.layout in let p : Pool = pool_of_marks l c.args.free.now c.args.aside.now in
    let way = c.args.way in let first = way.first in let reach = reach_of l way.start way.shallow way.wrap in
    let items = c.deref-word-items.result.now in let n = c.loop-word.word-index in
    let order = words_from l first c.words.result items _ c.deref-word-items.ensures.value c.in_ok-order.ensures
    c.words.ensures.value in
    reference_nothing l p first reach items c.deref-2.result.now order n
    (pool_of_marks l c.in_ok-marks-3.marks.free.items c.in_ok-marks-3.marks.aside.items)
    c.loop-word-test.false (c.deref-2.ensures.value ∙ c.loop-word.invariant.swept) c.loop-word.invariant.passed
    c.in_ok-marks-3.ensures.pool
