-- The words passed have no run, so the first word with a run decides the choice.
use Rattle.base_tests.proofs.Uses.{ap, arith, batch_words, get_or, HasNoRun, IsAvailableRun, IsBatchChoice, List, Pool, pool_of_marks, reduced, Some, subst, sym, take, word_of, words, ℕ, ◌∙◌}
use Rattle.std.proofs.Common.{◌≡◌, ◌∷◌}
use Rattle.base_tests.proofs.ReferenceOrders.{batch_from}
use Rattle.base_tests.proofs.Reference.{reference_no_batch, reference_batch, order_within, insert_first, swept_more, all_more}
use Rattle.base_tests.proofs.tests.search.reference.batch_choice.Goals as goal

pub run_in-requires-clause-word : goal.run_in-requires-clause-word
run_in-requires-clause-word c =
    let l = c.args.layout in let p : Pool = pool_of_marks l c.args.free.now c.args.aside.now in
    let first : ℕ = word_of l (reduced l.depth c.args.hint.at) in
    let items = c.deref-word-items.result.now in let at = c.loop-word.word-index in
    let order = batch_from l c.args.hint.at c.reduced.result c.depth.result c.shift.result c.words.result items _
    c.shift.ensures.value (omega arith) c.depth.ensures.value c.reduced.ensures c.words.ensures.value
    c.deref-word-items.ensures.value c.in_ok-order.ensures in
    order_within first (words l) items order at c.loop-word-test.true

pub loop-word-preserved : goal.loop-word-preserved
loop-word-preserved c =
    let l = c.args.layout in let p : Pool = pool_of_marks l c.args.free.now c.args.aside.now in
    let first : ℕ = word_of l (reduced l.depth c.args.hint.at) in
    let items = c.deref-word-items.result.now in let at = c.loop-word.word-index in
    record {
      swept = swept_more items c.loop-word.swept.items c.push.new.self.items at c.loop-word-test.true
          c.loop-word.invariant.swept c.in_ok-push.ensures.items;
      passed = all_more (HasNoRun l c.args.n p) items at c.loop-word-test.true c.loop-word.invariant.passed
          c.in_default.ensures.run;
    }

pub returns-in-Some-clause-choice : goal.returns-in-Some-clause-choice
returns-in-Some-clause-choice c =
    let l = c.args.layout in let p : Pool = pool_of_marks l c.args.free.now c.args.aside.now in
    let first : ℕ = word_of l (reduced l.depth c.args.hint.at) in
    let items = c.deref-word-items.result.now in let at = c.loop-word.word-index in
    let order = batch_from l c.args.hint.at c.reduced.result c.depth.result c.shift.result c.words.result items _
    c.shift.ensures.value (omega arith) c.depth.ensures.value c.reduced.ensures c.words.ensures.value
    c.deref-word-items.ensures.value c.in_ok-order.ensures in
    let word : ℕ = get_or items at 0 in let place = c.in-Some.place in let bits = c.available_bits-bits.result in
    let run : IsAvailableRun l c.args.n p word place bits = record {
      least = c.in-Some.ensures.run;
      fits = c.in-Some.ensures.fits;
      won = c.available_bits-bits.ensures;
    } in
    let new : Pool = pool_of_marks l c.in_ok-marks.marks.free.items c.in_ok-marks.marks.aside.items in
    let swept : c.deref.result.now ≡ word ∷ take at items =
    c.deref.ensures.value ∙ c.in_ok-insert.ensures.items ∙ insert_first c.loop-word.swept.items word
    ∙ ap (λ (xs : List ℕ). word ∷ xs) c.loop-word.invariant.swept in
    subst (λ (t : ℕ). IsBatchChoice l c.args.n p (batch_words l first) (Some (t, bits)) new)
    (sym c.tag_at.ensures.value)
    (reference_batch l p c.args.n first items c.deref.result.now order at word place bits new c.loop-word-test.true
    (λ _. word) c.loop-word.invariant.passed swept run c.in_ok-marks.ensures.pool)

pub returns-clause-choice : goal.returns-clause-choice
returns-clause-choice c =
    let l = c.args.layout in let p : Pool = pool_of_marks l c.args.free.now c.args.aside.now in
    let first : ℕ = word_of l (reduced l.depth c.args.hint.at) in
    let items = c.deref-word-items.result.now in let at = c.loop-word.word-index in
    let order = batch_from l c.args.hint.at c.reduced.result c.depth.result c.shift.result c.words.result items _
    c.shift.ensures.value (omega arith) c.depth.ensures.value c.reduced.ensures c.words.ensures.value
    c.deref-word-items.ensures.value c.in_ok-order.ensures in
    reference_no_batch l p c.args.n first items c.deref-2.result.now order at
    (pool_of_marks l c.in_ok-marks-2.marks.free.items c.in_ok-marks-2.marks.aside.items) c.loop-word-test.false
    (c.deref-2.ensures.value ∙ c.loop-word.invariant.swept) c.loop-word.invariant.passed c.in_ok-marks-2.ensures.pool
