-- Searches of some visits, and then of further ones.
use Rattle.std.specs.Prelude.{◌++◌, ◌∷◌, ◌≡◌, ◌≤◌}
use Rattle.tag_search.proofs.Uses.{ap, append_assoc, IsSearch, Layout, List, map, map-append, None, numbers, Option, over, passed, Reach, Some, subst, sym, Visit, visit_of, visits, won, words, WordStep, ℕ, ◌∙◌}
use Rattle.tag_search.proofs.Orders.{order-split}

-- a search that has an answer makes no further visits
pub search_stops : {l : Layout} {visits : List Visit} {steps : List WordStep} (tag : ℕ) (answer : Option ℕ)
    (more : List Visit) → answer ≡ Some tag
    → IsSearch l visits steps answer → IsSearch l (visits ++ more) steps answer
search_stops tag answer more e over = absurd (let no : None ≡ Some tag = e in cc)
search_stops tag answer more e (won {visit = visit} {place = place} v) = won {visit = visit} {place = place} v
search_stops tag answer more e (passed {visit = visit} v search) = passed {visit = visit} v
    (search_stops tag answer more e search)

-- a search without an answer goes on with further visits
pub search_goes_on : (l : Layout) {visits : List Visit} {steps : List WordStep} (first : Option ℕ) (more : List Visit)
    (rest : List WordStep) (answer : Option ℕ)
    → first ≡ None → IsSearch l visits steps first → IsSearch l more rest answer
    → IsSearch l (visits ++ more) (steps ++ rest) answer
search_goes_on l first more rest answer e over search = search
search_goes_on l first more rest answer e (won {visit = visit} {place = place} v) search =
    absurd (let no : Some _ ≡ None = e in cc)
search_goes_on l first more rest answer e (passed {visit = visit} {visits = vs} {steps = s} {rest = r} v left) search =
    subst (λ xs. IsSearch l (visit ∷ (vs ++ more)) xs answer) (sym (append_assoc s r rest))
    (passed {visit = visit} v (search_goes_on l first more rest answer e left search))

-- the visits of the words from the first on, and then of those before it
pub visits-split : (l : Layout) (first : ℕ) (reach : Reach) → first ≤ words l
    → visits l first reach ≡ map (visit_of first reach) (numbers first (words l)) ++ map (visit_of first reach)
    (numbers 0 first)
visits-split l first reach h =
    ap (map (visit_of first reach)) (order-split first (words l) h)
    ∙ map-append (visit_of first reach) (numbers first (words l)) (numbers 0 first)
