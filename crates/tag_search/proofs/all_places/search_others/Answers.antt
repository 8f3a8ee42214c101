-- The words after the first, and then those before it, are all other words in cyclic order.
use Rattle.std.specs.Prelude.{◌++◌, ◌+◌}
use Rattle.tag_search.proofs.Uses.{false, IsSearch, List, map, None, numbers, plain_reach, refl, Some, Visit, visit_of, words, ℕ}
use Rattle.tag_search.proofs.Joined.{adds_joined, adds_weaker}
use Rattle.tag_search.proofs.Searches.{search_stops, search_goes_on}
use Rattle.tag_search.proofs.all_places.search_others.Goals as goal

pub returns-in-Some-clause-search : goal.returns-in-Some-clause-search
returns-in-Some-clause-search g c =
    let l = c.args.layout in let first = c.args.first in let tag = c.in-Some.tag in
    let of : ℕ → Visit = visit_of first (plain_reach l false 0) in
    let front : List Visit = map of (numbers (first + 1) (words l)) in
    let back : List Visit = map of (numbers 0 first) in
    let scan = c.of_words-scan.ensures in
    adds_weaker (λ p xs q. g.P.Port.adds p xs q) c.args.port.now c.visit_between.new.port
    (λ xs. IsSearch l front xs (Some tag)) (λ xs. IsSearch l (front ++ back) xs (Some tag))
    (λ xs. search_stops tag (Some tag) back refl)
    (rw (scan.reach, scan.layout, scan.first, c.words.ensures.value) at c.in-Some.ensures.search)

pub returns-in-None-clause-search : goal.returns-in-None-clause-search
returns-in-None-clause-search g c =
    let l = c.args.layout in let first = c.args.first in let answer = c.visit_between-in-None.result in
    let of : ℕ → Visit = visit_of first (plain_reach l false 0) in
    let front : List Visit = map of (numbers (first + 1) (words l)) in
    let back : List Visit = map of (numbers 0 first) in
    let scan = c.of_words-scan.ensures in
    adds_joined (λ p xs q. g.P.Port.adds p xs q) g.met.P.Port.adds_more c.args.port.now c.visit_between.new.port
    c.visit_between-in-None.new.port
    (λ xs. IsSearch l front xs None) (λ xs. IsSearch l back xs answer)
    (λ xs. IsSearch l (front ++ back) xs answer)
    (λ xs ys. search_goes_on l None back ys answer refl)
    (rw (scan.reach, scan.layout, scan.first, c.words.ensures.value) at c.in-None.ensures.search)
    (rw (scan.reach, scan.layout, scan.first) at c.visit_between-in-None.ensures.search)
