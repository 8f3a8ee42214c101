-- The limit of the rank is the word's depth, so each place is below it.
use Rattle.std.specs.Prelude.{◌<◌}
use Rattle.tag_search.proofs.Uses.{All, arith, List, subst, sym, true, word_depth, ℕ}
use Rattle.tag_search.proofs.Orders.{all_scan}
use Rattle.tag_search.proofs.all_places.all_places.Goals as goal

pub returns-clause-within : goal.returns-clause-within
returns-clause-within c =
    let Below : ℕ → Type 0 = λ place. place < word_depth c.args.layout c.args.word in
    let value = c.word_depth.ensures.value in
    subst (λ (xs : List ℕ). All Below xs) (sym c.new.ensures)
    (all_scan Below 0 c.word_depth.result true (λ k h. omega arith))
