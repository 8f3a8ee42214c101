-- Each place of a rank is below its limit, which is at most the word's depth.
use Rattle.std.specs.Prelude.{◌<◌}
use Rattle.tag_search.proofs.Uses.{All, arith, List, subst, sym, word_depth, ℕ}
use Rattle.tag_search.proofs.Orders.{all_scan}
use Rattle.tag_search.proofs.scan.Scan.rank.Goals as goal

pub returns-clause-within : goal.returns-clause-within
returns-clause-within c =
    let Below : ℕ → Type 0 = λ place. place < word_depth c.args.self.now.layout c.args.word in
    let le = c.limit.ensures.within in
    subst (λ (xs : List ℕ). All Below xs) (sym c.new.ensures)
    (all_scan Below c.if-word-self.start c.limit.result c.args.self.now.wrap (λ k h. omega arith))
