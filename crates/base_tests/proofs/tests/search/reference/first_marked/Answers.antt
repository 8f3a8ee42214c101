-- No earlier place of the rank is marked, so the place found is the first.
use Rattle.base_tests.proofs.Uses.{get_or, mark_at, sym, ◌∙◌}
use Rattle.base_tests.proofs.Reference.{first_at}
use Rattle.base_tests.proofs.tests.search.reference.first_marked.Goals as goal

pub returns-then-mark_at : goal.returns-then-mark_at
returns-then-mark_at c =
    let place = get_or c.args.rank.now c.loop-place.place-index 0 in
    first_at (mark_at c.args.layout c.args.marks.now c.args.word) c.args.rank.now c.loop-place.place-index place
    c.loop-place-test.true (λ _. place) c.loop-place.invariant
    (sym c.mark_at.ensures ∙ c.if-mark_at.true)
