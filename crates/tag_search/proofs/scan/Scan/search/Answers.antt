-- The words from the first on, and then those before it, are all words in cyclic order.
use Rattle.std.specs.Prelude.{◌++◌}
use Rattle.tag_search.proofs.Uses.{IsSearch, map, None, numbers, reach_of, refl, Some, subst, sym, Visit, visit_of, visits, words, ℕ}
use Rattle.tag_search.proofs.Joined.{adds_joined, adds_weaker}
use Rattle.tag_search.proofs.Searches.{search_stops, search_goes_on, visits-split}
use Rattle.tag_search.proofs.scan.Scan.search.Goals as goal

pub returns-in-Some-clause-search : goal.returns-in-Some-clause-search
returns-in-Some-clause-search g c =
    let scan = c.args.self.now in let l = scan.layout in let of : ℕ → Visit = visit_of scan.first (reach_of scan) in
    let split = visits-split l scan.first (reach_of scan) c.requires.first in
    let front = map of (numbers scan.first (words l)) in let back = map of (numbers 0 scan.first) in
    let first = rw c.words.ensures.value at c.in-Some.ensures.search in
    adds_weaker (λ p xs q. g.P.Port.adds p xs q) c.args.port.now c.visit_between.new.port
    (λ xs. IsSearch l front xs (Some c.in-Some.tag)) (λ xs. IsSearch l (visits l scan.first (reach_of scan)) xs
    (Some c.in-Some.tag))
    (λ xs search. subst (λ vs. IsSearch l vs xs (Some c.in-Some.tag)) (sym split)
    (search_stops c.in-Some.tag (Some c.in-Some.tag) back refl search)) first

pub returns-in-None-clause-search : goal.returns-in-None-clause-search
returns-in-None-clause-search g c =
    let scan = c.args.self.now in let l = scan.layout in let of : ℕ → Visit = visit_of scan.first (reach_of scan) in
    let split = visits-split l scan.first (reach_of scan) c.requires.first in
    let answer = c.visit_between-in-None.result in
    let front = map of (numbers scan.first (words l)) in let back = map of (numbers 0 scan.first) in
    let first = rw c.words.ensures.value at c.in-None.ensures.search in
    adds_joined (λ p xs q. g.P.Port.adds p xs q) g.met.P.Port.adds_more c.args.port.now c.visit_between.new.port
    c.visit_between-in-None.new.port
    (λ xs. IsSearch l front xs None) (λ xs. IsSearch l back xs answer)
    (λ xs. IsSearch l (visits l scan.first (reach_of scan)) xs answer)
    (λ xs ys search rest. subst (λ vs. IsSearch l vs (xs ++ ys) answer) (sym split)
    (search_goes_on l None back ys answer refl search rest)) first c.visit_between-in-None.ensures.search
