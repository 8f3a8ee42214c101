-- A get is what it began with, and the rest of it.
use Rattle.tag_search.proofs.Uses.{IsGet, IsWonAtOnce, Some, visits_from}
use Rattle.tag_search.proofs.Joined.{adds_weaker}
use Rattle.tag_search.proofs.search.get.Goals as goal

pub returns-in-Ok-clause-steps : goal.returns-in-Ok-clause-steps
returns-in-Ok-clause-steps g c =
    let l = g.P.Port.sizes c.args.port.now in let hint = c.args.hint.now in let tag = c.in-Ok.tag in
    adds_weaker (λ p xs q. g.P.Port.adds p xs q) c.args.port.now c.begin.new.port (IsWonAtOnce l hint tag)
    (IsGet l (visits_from l hint) (Some tag)) (λ xs win. win.get) c.in-Ok.ensures.won
