-- A rest that wins ends the search with the first word's tag, and one that does not is followed by `search_on`.
use Rattle.std.specs.Prelude.{◌++◌}
use Rattle.tag_search.proofs.Uses.{append_assoc, at_once, Completes, IsMissed, IsPass, IsPlainSearch, IsRestOfPass, None, places_in, Some, subst, sym, ℕ}
use Rattle.tag_search.proofs.Joined.{adds_joined, adds_weaker}
use Rattle.tag_search.proofs.AllPlaces.{whole_won}
use Rattle.tag_search.proofs.all_places.search_after.Goals as goal

pub returns-in-Some-clause-search : goal.returns-in-Some-clause-search
returns-in-Some-clause-search g c =
    let l = c.args.layout in let first = c.args.first in let place = c.in-Some.place in let h = c.requires.first in
    let missed = c.args.missed in
    adds_weaker (λ p xs q. g.P.Port.adds p xs q) c.args.port.now c.pass_after.new.port
    (λ xs. IsRestOfPass first missed xs (Some place))
    (Completes (IsMissed first (places_in l first) missed) (IsPlainSearch l first (Some c.tag_at.result)))
    (λ xs rest tried begun. subst (λ (tag : ℕ). IsPlainSearch l first (Some tag) (tried ++ xs))
    (sym c.tag_at.ensures.value)
    (whole_won l first h (tried ++ xs) place (at_once (begun.goes_on xs (Some place) rest))))
    c.in-Some.ensures.rest

pub returns-in-None-clause-search : goal.returns-in-None-clause-search
returns-in-None-clause-search g c =
    let l = c.args.layout in let first = c.args.first in let h = c.requires.first in
    let answer = c.search_on.result in let missed = c.args.missed in
    adds_joined (λ p xs q. g.P.Port.adds p xs q) g.met.P.Port.adds_more c.args.port.now c.pass_after.new.port
    c.search_on.new.port (λ xs. IsRestOfPass first missed xs None)
    (Completes (λ seen. IsPass first (places_in l first) seen None) (IsPlainSearch l first answer))
    (Completes (IsMissed first (places_in l first) missed) (IsPlainSearch l first answer))
    (λ xs ys rest on tried begun. subst (IsPlainSearch l first answer) (append_assoc tried xs ys)
    (on (tried ++ xs) (begun.goes_on xs None rest)))
    c.in-None.ensures.rest c.search_on.ensures.search
