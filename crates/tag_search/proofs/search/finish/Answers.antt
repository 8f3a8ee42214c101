-- What follows a lost claim tries the places after it, as they stand in the word that the claim found.
use Rattle.std.specs.Prelude.{◌<◌, ◌≡◌}
use Rattle.tag_search.proofs.Uses.{AddsSteps, ap, append-nil, arith, Full, Hint, IsRestOfGet, Layout, List, Lost, numbers, Option, refl, subst, sym, Unfinished, word_depth, word_of, WordStep, ℕ, ◌∙◌}
use Rattle.std.proofs.Common.{All}
use Rattle.tag_search.proofs.BegunFacts.{rest_after_lost}
use Rattle.tag_search.proofs.Joined.{adds_weaker}
use Rattle.tag_search.proofs.Orders.{all_numbers}
use Rattle.tag_search.proofs.search.finish.Goals as goal

pub finish_try-requires-in-Lost-clause-places : goal.finish_try-requires-in-Lost-clause-places
finish_try-requires-in-Lost-clause-places g c =
    let layout = c.layout-layout.result in let at = c.args.hint.now.at in
    let most : c.word_depth-limit.result ≡ word_depth layout (word_of layout at) = c.word_depth-limit.ensures.value
    ∙ ap (word_depth layout) c.word_of.ensures.value in
    subst (λ (xs : List ℕ). All (λ place. place < word_depth layout (word_of layout at)) xs) (sym (append-nil
    (numbers c.in-Lost.from c.word_depth-limit.result)))
    (all_numbers (λ place. place < word_depth layout (word_of layout at)) c.in-Lost.from c.word_depth-limit.result
    (λ k _ low. omega arith))

-- how much of the get is left, in the sizes of the port
rest_in : {Port : Type 0} (adds : Port → List WordStep → Port → Type 0) (old new : Port) (l sizes : Layout)
    (hint : Hint) (rest known : Unfinished) (answer : Option ℕ) → l ≡ sizes → rest ≡ known
    → AddsSteps adds old new (IsRestOfGet l hint known answer)
    → AddsSteps adds old new (IsRestOfGet sizes hint rest answer)
rest_in adds old new l sizes hint rest known answer same is = subst (λ (x : Layout × Unfinished).
    AddsSteps adds old new (IsRestOfGet x.0 hint x.1 answer)) (λ j. (same j, sym is j))

pub returns-in-Full-clause-steps : goal.returns-in-Full-clause-steps
returns-in-Full-clause-steps g c =
    rest_in g.P.Port.adds c.args.port.now c.finish_try.new.port c.layout-layout.result _ c.args.hint.now c.args.rest
    Full c.finish_try.result c.layout-layout.ensures.value c.in-Full.is c.finish_try.ensures.steps

pub returns-in-Lost-clause-steps : goal.returns-in-Lost-clause-steps
returns-in-Lost-clause-steps g c =
    let l = c.layout-layout.result in let hint = c.args.hint.now in let from = c.in-Lost.from in
    let found = c.in-Lost.found in let tried = c.finish_try-in-Lost in let answer = tried.result in
    let most : c.word_depth-limit.result ≡ word_depth l (word_of l hint.at) = c.word_depth-limit.ensures.value
    ∙ ap (word_depth l) c.word_of.ensures.value in
    rest_in g.P.Port.adds c.args.port.now tried.new.port l _ hint c.args.rest (Lost from found) answer
    c.layout-layout.ensures.value c.in-Lost.is
    (adds_weaker (λ p xs q. g.P.Port.adds p xs q) c.args.port.now tried.new.port _
    (IsRestOfGet l hint (Lost from found) answer)
    (λ xs done. rest_after_lost l hint from found answer xs done refl refl most) tried.ensures.steps)
