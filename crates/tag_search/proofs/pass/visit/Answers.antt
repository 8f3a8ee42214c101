-- A pass that wins is the whole visit, and one that does not is followed by the retry.
use Rattle.tag_search.proofs.Uses.{at_once, IsPass, IsRetry, IsVisit, None, places_of, retried, Some}
use Rattle.tag_search.proofs.Joined.{adds_joined, adds_weaker}
use Rattle.tag_search.proofs.pass.visit.Goals as goal

pub returns-in-Some-clause-visit : goal.returns-in-Some-clause-visit
returns-in-Some-clause-visit g c =
    adds_weaker (λ p xs q. g.P.Port.adds p xs q) c.args.port.now c.pass.new.port
    (λ xs. IsPass c.args.word (places_of c.args.rank) xs (Some c.in-Some.place))
    (λ xs. IsVisit c.args.word (places_of c.args.rank) c.args.turns xs (Some c.in-Some.place)) (λ xs pass. at_once pass)
    c.in-Some.ensures.pass

pub returns-in-None-clause-visit : goal.returns-in-None-clause-visit
returns-in-None-clause-visit g c =
    let rank = places_of c.args.rank in
    adds_joined (λ p xs q. g.P.Port.adds p xs q) g.met.P.Port.adds_more c.args.port.now c.pass.new.port c.retry.new.port
    (λ xs. IsPass c.args.word rank xs None) (λ xs. IsRetry c.args.word rank c.args.turns xs c.retry.result)
    (λ xs. IsVisit c.args.word rank c.args.turns xs c.retry.result)
    (λ xs ys pass retry. retried c.requires.some pass retry) c.in-None.ensures.pass c.retry.ensures.retry
