-- The scan makes the visits of the get, and as its limits are within the words, its steps are bounded.
use Rattle.tag_search.proofs.Uses.{plain_reach, reduced, sym, ℕ}
use Rattle.tag_search.proofs.GetFacts.{scan_get, plain_within}
use Rattle.tag_search.proofs.Joined.{adds_weaker}
use Rattle.tag_search.proofs.search.get_by_scan.Goals as goal

pub returns-clause-steps : goal.returns-clause-steps
returns-clause-steps g c =
    let l = g.P.Port.sizes c.args.port.now in let hint : ℕ = reduced l.depth c.args.hint.now.at in
    let made = c.plain.ensures in
    adds_weaker (λ p xs q. g.P.Port.adds p xs q) c.args.port.now c.search-answer.new.port _ _
    (scan_get c.plain.result c.args.layout l (λ l hint. plain_reach l c.args.hint.now.round_robin hint)
    c.args.hint.now.at c.depth.result c.reduced-from.result (sym c.requires.layout) c.depth.ensures.value
    c.reduced-from.ensures made.layout made.shift made.first made.reach
    (plain_within l c.args.hint.now.round_robin hint) c.search-answer.result) c.search-answer.ensures.search
