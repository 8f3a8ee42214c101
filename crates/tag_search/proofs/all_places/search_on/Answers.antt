-- The retry completes the visit of the first word, and the other words follow it.
use Rattle.std.specs.Prelude.{◌++◌}
use Rattle.tag_search.proofs.Uses.{append_assoc, arith, Completes, IsPass, IsPlainSearch, IsRetry, IsSearch, most_turns, None, places_in, retried, Some, subst, sym, ℕ}
use Rattle.tag_search.proofs.Joined.{adds_joined, adds_weaker}
use Rattle.tag_search.proofs.AllPlaces.{others, whole_won, whole_passed}
use Rattle.tag_search.proofs.all_places.search_on.Goals as goal

pub returns-in-Some-clause-search : goal.returns-in-Some-clause-search
returns-in-Some-clause-search g c =
    let l = c.args.layout in let first = c.args.first in let place = c.in-Some.place in let h = c.requires.first in
    adds_weaker (λ p xs q. g.P.Port.adds p xs q) c.args.port.now c.retry_keeping.new.port
    (λ xs. IsRetry first (places_in l first) most_turns xs (Some place))
    (Completes (λ seen. IsPass first (places_in l first) seen None) (IsPlainSearch l first (Some c.tag_at.result)))
    (λ xs retry seen pass. subst (λ (tag : ℕ). IsPlainSearch l first (Some tag) (seen ++ xs))
    (sym c.tag_at.ensures.value)
    (whole_won l first h (seen ++ xs) place (retried (omega arith) pass retry)))
    (rw c.all_places.ensures.rank at c.in-Some.ensures.retry)

pub returns-in-None-clause-search : goal.returns-in-None-clause-search
returns-in-None-clause-search g c =
    let l = c.args.layout in let first = c.args.first in let h = c.requires.first in
    let answer = c.search_others.result in
    adds_joined (λ p xs q. g.P.Port.adds p xs q) g.met.P.Port.adds_more c.args.port.now c.retry_keeping.new.port
    c.search_others.new.port (λ xs. IsRetry first (places_in l first) most_turns xs None)
    (λ ys. IsSearch l (others l first h) ys answer)
    (Completes (λ seen. IsPass first (places_in l first) seen None) (IsPlainSearch l first answer))
    (λ xs ys retry search seen pass. subst (IsPlainSearch l first answer) (append_assoc seen xs ys)
    (whole_passed l first h (seen ++ xs) ys answer (retried (omega arith) pass retry) search))
    (rw c.all_places.ensures.rank at c.in-None.ensures.retry) c.search_others.ensures.search
