-- A first try that wins is the whole pass, and one that misses is followed by the rest.
use Rattle.tag_search.proofs.Uses.{IsFirstWin, IsMissed, IsPass, IsRestOfPass, places_of, Some}
use Rattle.tag_search.proofs.Joined.{adds_joined, adds_weaker}
use Rattle.tag_search.proofs.pass.pass.Goals as goal

pub returns-in-Ok-clause-pass : goal.returns-in-Ok-clause-pass
returns-in-Ok-clause-pass g c =
    let rank = places_of c.args.rank in
    adds_weaker (λ p xs q. g.P.Port.adds p xs q) c.args.port.now c.try_first.new.port
    (IsFirstWin c.args.word rank c.in-Ok.place) (λ xs. IsPass c.args.word rank xs (Some c.in-Ok.place))
    (λ xs win. win.pass) c.in-Ok.ensures.won

pub returns-in-Err-clause-pass : goal.returns-in-Err-clause-pass
returns-in-Err-clause-pass g c =
    let rank = places_of c.args.rank in let missed = c.in-Err.missed in let answer = c.pass_after.result in
    adds_joined (λ p xs q. g.P.Port.adds p xs q) g.met.P.Port.adds_more c.args.port.now c.try_first.new.port
    c.pass_after.new.port (IsMissed c.args.word rank missed) (λ ys. IsRestOfPass c.args.word missed ys answer)
    (λ xs. IsPass c.args.word rank xs answer) (λ xs ys tried rest. tried.goes_on ys answer rest)
    c.in-Err.ensures.missed c.pass_after.ensures.rest
